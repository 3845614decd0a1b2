-- Which messages are recorded: what each event adds, and which events add none.
use Rattle.std.proofs.Common.{arith, true≢false, ◌≡◌, refl, sym, ap, subst, ◌∙◌, ℕ, zero, suc, ◌==◌, Bool, true, false, ◌&&◌, ◌||◌, if◌then◌else◌, List, [], ◌∷◌, ◌++◌, append-nil, length, map, Option, Some, None, is_some, bytes_eq}
use Rattle.std.specs.List.{list_any}
use Rattle.std.proofs.lemmas.Bool.{eq-eqb, eqb-true, ne_eqb}
use Rattle.std.proofs.lemmas.Slice.Eq.{bytes_eq-Decides}
use Rattle.journal_model.specs.Notification.{Text, Arrival}
use Rattle.journal_model.specs.declared.notification.NotificationResult.{NotificationResult}
use Rattle.journal_model.specs.declared.notification.SignalKey.{SignalKey}
use Rattle.journal_model.specs.declared.cause.Cause.{Cause}
use Rattle.journal_model.specs.Request.{Request}
use Rattle.journal_model.specs.Event.{Frame, Event}
use Rattle.journal_model.specs.Journal.{Entry, Recorded, Arrived, begins, frame_of, request_of_frame, requests_in, entries_of, starting_state, read_answer}
use Rattle.journal_model.specs.State.{state_after}
use Rattle.journal_model.specs.Cause.{causes_of, IsAccepted}
use Rattle.journal_laws.proofs.ObjectState.{no_entries}
use Rattle.journal_laws.proofs.Leaving.{and-true}
use Rattle.input_laws.proofs.Events.{added_by, entries_first, entries_now, no_request, not_begun, nothing_added}
use Rattle.delivery_laws.specs.Message.{Message, Makes, Tells, Completes, entry_at, entry_behind, message_at, message_in, message_of}
use Rattle.delivery_laws.specs.Outbox.{is_row_of, OwedRow, rows_put}
use Rattle.delivery_laws.specs.Log.{Kept}
use Rattle.delivery_laws.specs.Delivery.{DeliveryRules, bring, bring_call, id_told, if_accepted, is_to_be_made, may_name, new_for, signal_brought, value_brought}
use Rattle.delivery_laws.proofs.Posted.{items, message_stays}

-- whether a message is at a place
abbrev behind : List Entry → ℕ → Bool
behind entries n = is_some (message_in (entry_behind entries n))

abbrev pub at_place : List Entry → ℕ → Bool
at_place entries place = is_some (message_in (entry_at entries place))

none_behind : (entries : List Entry) (n : ℕ) → requests_in entries ≡ [] → behind entries n ≡ false
none_behind [] n e = refl
none_behind (Recorded request ∷ entries) n e = cc
none_behind (Arrived arrival ∷ entries) zero e = refl
none_behind (Arrived arrival ∷ entries) (suc n) e = none_behind entries n e

pub none_at : (place : ℕ) → at_place [] place ≡ false
none_at zero = refl
none_at (suc n) = refl

-- arrivals bring no message
behind_same : (entries more : List Entry) (n : ℕ) → requests_in more ≡ [] → behind (entries ++ more) n ≡ behind entries n
behind_same [] more n e = none_behind more n e
behind_same (entry ∷ entries) more zero e = refl
behind_same (entry ∷ entries) more (suc n) e = behind_same entries more n e

at_same : (entries more : List Entry) (place : ℕ) → requests_in more ≡ [] → at_place (entries ++ more) place ≡ at_place entries place
at_same entries more zero e = refl
at_same entries more (suc n) e = behind_same entries more n e

one_of : (b : Bool) → b ≡ ((true && b) || false)
one_of true = refl
one_of false = refl

-- whether a place is the next one behind entries
abbrev is_behind : List Entry → ℕ → Bool
is_behind [] zero = true
is_behind [] (suc n) = false
is_behind (entry ∷ entries) zero = false
is_behind (entry ∷ entries) (suc n) = is_behind entries n

abbrev is_next : List Entry → ℕ → Bool
is_next entries zero = false
is_next entries (suc n) = is_behind entries n

both_one_more : (a b : ℕ) → (a == b) ≡ (suc a == suc b)
both_one_more a b = by_test (a == b) refl
  where
    by_test : (c : Bool) → (a == b) ≡ c → c ≡ (suc a == suc b)
    by_test true e = let same = eqb-true a b e in sym (eq-eqb (suc a) (suc b) (ap suc same))
    by_test false e = sym (ne_eqb (suc a) (suc b) (λ f. let same : a ≡ b = omega (arith, f) in true≢false (sym (eq-eqb a b same) ∙ e)))

behind_length : (entries : List Entry) (n : ℕ) → is_behind entries n ≡ (length entries == n)
behind_length [] zero = refl
behind_length [] (suc n) = sym (ne_eqb 0 (suc n) (λ e. omega (arith, e)))
behind_length (entry ∷ entries) zero = sym (ne_eqb (suc (length entries)) 0 (λ e. omega (arith, e)))
behind_length (entry ∷ entries) (suc n) = behind_length entries n ∙ both_one_more (length entries) n

next_length : (entries : List Entry) (place : ℕ) → is_next entries place ≡ (suc (length entries) == place)
next_length entries zero = sym (ne_eqb (suc (length entries)) 0 (λ e. omega (arith, e)))
next_length entries (suc n) = behind_length entries n ∙ both_one_more (length entries) n

-- a request brings its own, at the next place
behind_one : (entries more : List Entry) (n : ℕ) (request : Request) → requests_in more ≡ []
    → behind (entries ++ Recorded request ∷ more) n ≡ ((is_behind entries n && is_some (message_of request)) || behind entries n)
behind_one [] more zero request e = one_of (is_some (message_of request))
behind_one [] more (suc n) request e = none_behind more n e
behind_one (entry ∷ entries) more zero request e = refl
behind_one (entry ∷ entries) more (suc n) request e = behind_one entries more n request e

at_one : (entries more : List Entry) (place : ℕ) (request : Request) → requests_in more ≡ []
    → at_place (entries ++ Recorded request ∷ more) place ≡ ((is_next entries place && is_some (message_of request)) || at_place entries place)
at_one entries more zero request e = refl
at_one entries more (suc n) request e = behind_one entries more n request e

arrived_none : (arrivals : List Arrival) → requests_in (map Arrived arrivals) ≡ []
arrived_none [] = refl
arrived_none (arrival ∷ arrivals) = arrived_none arrivals

-- the next place is free
behind_free : (entries : List Entry) (n : ℕ) → is_behind entries n ≡ true → behind entries n ≡ false
behind_free [] n e = refl
behind_free (entry ∷ entries) zero e = absurd (true≢false (sym e))
behind_free (entry ∷ entries) (suc n) e = behind_free entries n e

next_free : (entries : List Entry) (place : ℕ) → is_next entries place ≡ true → at_place entries place ≡ false
next_free entries zero e = refl
next_free entries (suc n) e = behind_free entries n e

module _ (sender : Text) (place : ℕ) where
  abbrev pub is_there : List Event → Bool
  is_there events = is_some (message_at events sender place)

  -- one that begins its sender has no messages
  at_begin : (event : Event) (events : List Event) → IsAccepted (event ∷ events) → begins sender event ≡ true → (is_there (event ∷ events) ≡ false) × (is_there events ≡ false)
  at_begin event events accepted e = (
    ap (λ (entries : List Entry). at_place entries place) (entries_first event events sender accepted e) ∙ none_at place,
    ap (λ (entries : List Entry). at_place entries place) (no_entries (starting_state events sender) events accepted.1 sender (not_begun event events sender accepted e)) ∙ none_at place,
  )

  -- an event without a request brings none
  pub quiet_same : (event : Event) (events : List Event) → IsAccepted (event ∷ events) → request_of_frame (frame_of event) ≡ [] → is_there (event ∷ events) ≡ is_there events
  quiet_same event events accepted quiet = by_begin (begins sender event) refl
    where
      by_begin : (b : Bool) → begins sender event ≡ b → is_there (event ∷ events) ≡ is_there events
      by_begin true e = let none = at_begin event events accepted e in none.0 ∙ sym none.1
      by_begin false e =
          ap (λ (entries : List Entry). at_place entries place) (entries_now event events sender e)
          ∙ at_same (entries_of events sender) (added_by events sender event) place (no_request events sender event quiet)

  -- whether an event puts the row of the place
  abbrev pub puts : List Event → ℕ → Event → Bool
  puts events number event = list_any (is_row_of sender place) (rows_put events number event)

  one_row : (b : Bool) (row : OwedRow) → list_any (is_row_of sender place) (if b then row ∷ [] else []) ≡ (is_row_of sender place row && b)
  one_row true row = or_and (is_row_of sender place row)
    where
      or_and : (b : Bool) → (b || false) ≡ (b && true)
      or_and true = refl
      or_and false = refl
  one_row false row = sym (and_no (is_row_of sender place row))
    where
      and_no : (b : Bool) → (b && false) ≡ false
      and_no true = refl
      and_no false = refl

  and_groups : (a b c : Bool) → ((a && b) && c) ≡ (a && (b && c))
  and_groups true b c = refl
  and_groups false b c = refl

  puts_command : (id : Text) (attempt number : ℕ) (request : Request) (events : List Event)
      → puts events number (Event.Move id attempt (Frame.Command request))
      ≡ (bytes_eq id sender && (is_next (entries_of events sender) place && is_some (message_of request)))
  puts_command id attempt number request events =
      one_row (is_some (message_of request)) (record { number = number; sender = id; place = suc (length (entries_of events id)) })
      ∙ and_groups (bytes_eq id sender) (suc (length (entries_of events id)) == place) (is_some (message_of request))
      ∙ by_sender (bytes_eq id sender) refl
    where
      by_sender : (b : Bool) → bytes_eq id sender ≡ b
          → (b && ((suc (length (entries_of events id)) == place) && is_some (message_of request)))
          ≡ (b && (is_next (entries_of events sender) place && is_some (message_of request)))
      by_sender true e =
          ap (λ (x : Text). (suc (length (entries_of events x)) == place) && is_some (message_of request)) ((bytes_eq-Decides id sender).0 e)
          ∙ ap (λ (b : Bool). b && is_some (message_of request)) (sym (next_length (entries_of events sender) place))
      by_sender false e = refl

  command_there : (id : Text) (attempt : ℕ) (request : Request) (events : List Event) (b : Bool) → bytes_eq id sender ≡ b
      → is_there (Event.Move id attempt (Frame.Command request) ∷ events)
      ≡ ((b && (is_next (entries_of events sender) place && is_some (message_of request))) || is_there events)
  command_there id attempt request events true f =
      let event : Event = Event.Move id attempt (Frame.Command request) in
      let more : List Entry = map Arrived (read_answer (state_after (requests_in (entries_of events sender)) (starting_state events sender)) request) in
      let added : added_by events sender event ≡ Recorded request ∷ more =
      ap (λ (b : Bool). if b || false then Recorded request ∷ more else []) f in
      ap (λ (entries : List Entry). at_place entries place)
      (entries_now event events sender refl ∙ ap (λ (new : List Entry). entries_of events sender ++ new) added)
      ∙ at_one (entries_of events sender) more place request
      (arrived_none (read_answer (state_after (requests_in (entries_of events sender)) (starting_state events sender)) request))
  command_there id attempt request events false f =
      let event : Event = Event.Move id attempt (Frame.Command request) in
      ap (λ (entries : List Entry). at_place entries place)
      (entries_now event events sender refl
      ∙ ap (λ (new : List Entry). entries_of events sender ++ new) (nothing_added events sender event f refl)
      ∙ append-nil (entries_of events sender))

  pub event_puts : (number : ℕ) (event : Event) (events : List Event) → IsAccepted (event ∷ events)
      → is_there (event ∷ events) ≡ (puts events number event || is_there events)
  event_puts number (Event.Move id attempt (Frame.Command request)) events accepted =
      command_there id attempt request events (bytes_eq id sender) refl
      ∙ ap (λ (b : Bool). b || is_there events) (sym (puts_command id attempt number request events))
  event_puts number (Event.Move id attempt frame) events accepted = quiet_same (Event.Move id attempt frame) events accepted refl
  event_puts number event events accepted = quiet_same event events accepted refl

  pub puts_free : (number : ℕ) (event : Event) (events : List Event) → puts events number event ≡ true → is_there events ≡ false
  puts_free number (Event.Move id attempt (Frame.Command request)) events e =
      let rest = (and-true (bytes_eq id sender) (is_next (entries_of events sender) place && is_some (message_of request)) (sym (puts_command id attempt number request events) ∙ e)).1 in
      next_free (entries_of events sender) place (and-true (is_next (entries_of events sender) place) (is_some (message_of request)) rest).0
  puts_free number (Event.Move id attempt frame) events e = cc
  puts_free number event events e = cc

  -- ---- what is brought is quiet

  abbrev pub AreQuiet : List Event → Type 0
  AreQuiet [] = Unit {0}
  AreQuiet (event ∷ events) = (request_of_frame (frame_of event) ≡ []) × AreQuiet events

  pub all_same : (more events : List Event) → IsAccepted (more ++ events) → AreQuiet more → is_there (more ++ events) ≡ is_there events
  all_same [] events accepted quiet = refl
  all_same (event ∷ more) events accepted quiet =
      quiet_same event (more ++ events) accepted quiet.0 ∙ all_same more events accepted.1 quiet.1

  pub both_quiet : (more events : List Event) → AreQuiet more → AreQuiet events → AreQuiet (more ++ events)
  both_quiet [] events quiet others = others
  both_quiet (event ∷ more) events quiet others = (quiet.0, both_quiet more events quiet.1 others)

  if_quiet : (event : Event) (causes : List Cause) → request_of_frame (frame_of event) ≡ [] → AreQuiet (if_accepted event causes)
  if_quiet event [] e = (e, tt)
  if_quiet event (cause ∷ causes) e = tt

  call_quiet : (events : List Event) (invoke told : Event) (causes : List Cause) (brought : List Event) → request_of_frame (frame_of invoke) ≡ []
      → request_of_frame (frame_of told) ≡ [] → bring_call events invoke told causes ≡ Some brought → AreQuiet brought
  call_quiet events invoke told [] brought e g f =
      subst (λ (added : List Event). AreQuiet added) (ap items f)
      (both_quiet (if_accepted told (causes_of (invoke ∷ events) told)) (invoke ∷ []) (if_quiet told (causes_of (invoke ∷ events) told) g) (e, tt))
  call_quiet events invoke told (cause ∷ causes) brought e g f = cc

  signal_quiet : (events : List Event) (target : Text) (key : SignalKey) (result : NotificationResult) → AreQuiet (signal_brought events target key result)
  signal_quiet events target key result =
      if_quiet (Event.Signal target key result) (causes_of events (Event.Signal target key result)) refl

  pub bring_quiet : (rules : DeliveryRules) (kept : Kept) (from id : Text) (message : Message) (brought : List Event) → bring rules kept from id message ≡ Some brought → AreQuiet brought
  bring_quiet rules kept from id (Makes call time m) brought f = by_name (may_name (id_told kept.events from m) id) f
    where
      invoke : Event
      invoke = Event.Invoke (new_for rules kept.events from call id)

      told : Event
      told = Event.Result from m (NotificationResult.InvocationId id)

      by_name : (b : Bool) → (if b then bring_call kept.events invoke told (causes_of kept.events invoke) else None) ≡ Some brought → AreQuiet brought
      by_name true g = call_quiet kept.events invoke told (causes_of kept.events invoke) brought refl refl g
      by_name false g = cc
  bring_quiet rules kept from id (Tells target key result) brought f = by_waiting (is_to_be_made kept target) f
    where
      by_waiting : (b : Bool) → (if b then None else Some (signal_brought kept.events target key result)) ≡ Some brought → AreQuiet brought
      by_waiting true g = cc
      by_waiting false g = subst (λ (added : List Event). AreQuiet added) (ap items g) (signal_quiet kept.events target key result)
  bring_quiet rules kept from id (Completes text result) brought f =
      subst (λ (added : List Event). AreQuiet added) (ap items f) (by_named (rules.awakeable text))
    where
      by_named : (o : Option (Text × ℕ)) → AreQuiet (value_brought kept.events o result)
      by_named None = tt
      by_named (Some named) = signal_quiet kept.events named.0 (SignalKey.ByIndex named.1) result

  -- ---- what is settled is recorded

  pub there_still : (events more : List Event) → IsAccepted (more ++ events) → is_there events ≡ true → is_there (more ++ events) ≡ true
  there_still events more accepted e = by_message (message_at events sender place) refl e
    where
      by_message : (o : Option Message) → message_at events sender place ≡ o → is_some o ≡ true → is_there (more ++ events) ≡ true
      by_message None f g = cc
      by_message (Some message) f g = ap (λ (o : Option Message). is_some o) (message_stays events more sender place message accepted f)
