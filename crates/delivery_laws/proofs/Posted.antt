-- The laws of deliveries.
use Rattle.std.proofs.Common.{◌≡◌, refl, sym, ap, subst, ◌∙◌, ℕ, zero, suc, ◌-◌, ◌^◌, nat_le, Bool, true, false, not, ◌&&◌, ◌||◌, if◌then◌else◌, List, [], ◌∷◌, ◌++◌, append_assoc, Option, Some, None, bytes_eq, unwrap_or}
use Rattle.std.specs.List.{find, list_all}
use Rattle.std.proofs.lemmas.Bool.{eqb-true}
use Rattle.journal_model.specs.Notification.{Arrival, Text}
use Rattle.journal_model.specs.declared.notification.NotificationResult.{NotificationResult}
use Rattle.journal_model.specs.declared.notification.SignalKey.{SignalKey}
use Rattle.journal_model.specs.Request.{CallRecord}
use Rattle.journal_model.specs.declared.invocation.NewInvocation.{NewInvocation}
use Rattle.journal_model.specs.Event.{Event, Frame}
use Rattle.journal_model.specs.Journal.{Entry, arrivals_in, begins, entries_of, id_of_signal, invocation_begun, recorded_arrivals, starting_state}
use Rattle.journal_model.specs.declared.cause.Cause.{Cause}
use Rattle.journal_model.specs.Cause.{causes_of, added_by, is_of_frame, those_that_hold, IsAccepted}
use Rattle.journal_laws.specs.Forgetting.{is_among, without_all}
use Rattle.journal_laws.proofs.Asking.{after_all-accepted}
use Rattle.journal_laws.proofs.Isolation.{IsToldAlike, told_alike}
use Rattle.journal_laws.proofs.ObjectState.{no_entries}
use Rattle.journal_laws.proofs.Several.{several_forget}
use Rattle.input_laws.proofs.Events.{arrivals_now, entries_now, itself, not_begun}
use Rattle.input_laws.proofs.Events as now
use Rattle.delivery_laws.specs.Message.{Message, Makes, Tells, Completes, entry_at, entry_behind, message_at, message_in}
use Rattle.delivery_laws.specs.Outbox.{has_number, is_edit_of, asks_others, number_causes, Outbox, outbox_object, OwedRow}
use Rattle.delivery_laws.specs.Log.{Kept, Logged, Found, Came, Delivered, Forgot, events_of, kept_of, outbox_of}
use Rattle.delivery_laws.specs.Delivery.{DeliveryRules, after_delivery, after_message, after_step, after_steps, bring, bring_call, came, causes_in, id_told, if_accepted, is_to_be_made, logged, may_forget, may_name, new_for, signal_brought, Step, Asked, Deliver, Forget, value_brought}
use Rattle.delivery_laws.specs.Posted.{Arrives, ArrivesAt, IsPosted, ValueArrives}

-- ---- what was accepted

abbrev pub items : Option (List Event) → List Event
items o = unwrap_or o []

accepted_if : (events : List Event) (event : Event) (causes : List Cause) → causes_of events event ≡ causes → IsAccepted events → IsAccepted (if_accepted event causes ++ events)
accepted_if events event [] e accepted = (e, accepted)
accepted_if events event (cause ∷ causes) e accepted = accepted

call_accepted : (events : List Event) (invoke told : Event) (causes : List Cause) (brought : List Event) → causes_of events invoke ≡ causes
    → bring_call events invoke told causes ≡ Some brought → IsAccepted events → IsAccepted (brought ++ events)
call_accepted events invoke told [] brought e f accepted =
    let more : List Event = if_accepted told (causes_of (invoke ∷ events) told) in
    subst (λ (added : List Event). IsAccepted (added ++ events)) (ap items f)
    (subst (λ (all : List Event). IsAccepted all) (sym (append_assoc more (invoke ∷ []) events))
    (accepted_if (invoke ∷ events) told (causes_of (invoke ∷ events) told) refl (e, accepted)))
call_accepted events invoke told (cause ∷ causes) brought e f accepted = cc

signal_accepted : (events : List Event) (target : Text) (key : SignalKey) (result : NotificationResult) → IsAccepted events → IsAccepted (signal_brought events target key result ++ events)
signal_accepted events target key result accepted =
    accepted_if events (Event.Signal target key result) (causes_of events (Event.Signal target key result)) refl accepted

pub bring_accepted : (rules : DeliveryRules) (kept : Kept) (sender id : Text) (message : Message) (brought : List Event)
    → bring rules kept sender id message ≡ Some brought → IsAccepted kept.events → IsAccepted (brought ++ kept.events)
bring_accepted rules kept sender id (Makes call time m) brought f accepted = by_name (may_name (id_told kept.events sender m) id) f
  where
    invoke : Event
    invoke = Event.Invoke (new_for rules kept.events sender call id)

    told : Event
    told = Event.Result sender m (NotificationResult.InvocationId id)

    by_name : (b : Bool) → (if b then bring_call kept.events invoke told (causes_of kept.events invoke) else None) ≡ Some brought → IsAccepted (brought ++ kept.events)
    by_name true g = call_accepted kept.events invoke told (causes_of kept.events invoke) brought refl g accepted
    by_name false g = cc
bring_accepted rules kept sender id (Tells target key result) brought f accepted = by_waiting (is_to_be_made kept target) f
  where
    by_waiting : (b : Bool) → (if b then None else Some (signal_brought kept.events target key result)) ≡ Some brought → IsAccepted (brought ++ kept.events)
    by_waiting true g = cc
    by_waiting false g = subst (λ (added : List Event). IsAccepted (added ++ kept.events)) (ap items g) (signal_accepted kept.events target key result accepted)
bring_accepted rules kept sender id (Completes text result) brought f accepted =
    subst (λ (added : List Event). IsAccepted (added ++ kept.events)) (ap items f) (by_named (rules.awakeable text))
  where
    by_named : (o : Option (Text × ℕ)) → IsAccepted (value_brought kept.events o result ++ kept.events)
    by_named None = accepted
    by_named (Some named) = signal_accepted kept.events named.0 (SignalKey.ByIndex named.1) result accepted

pub posted_accepted : (rules : DeliveryRules) (log : List Logged) → IsPosted rules log → IsAccepted (events_of log)
posted_accepted rules [] posted = tt
posted_accepted rules (Found events ∷ log) posted = posted.0.accepted
posted_accepted rules (Came event ∷ log) posted = (posted.0.causes, posted_accepted rules log posted.1)
posted_accepted rules (Delivered row brought ∷ log) posted =
    bring_accepted rules (kept_of log) row.sender posted.0.id posted.0.message brought posted.0.brings (posted_accepted rules log posted.1)
posted_accepted rules (Forgot ids ∷ log) posted = (several_forget (events_of log) ids).accepted (posted_accepted rules log posted.1)

-- ---- steps

one_posted : (rules : DeliveryRules) (event : Event) (log : List Logged) → causes_of (events_of log) event ≡ [] → number_causes (outbox_of log) event ≡ []
    → is_edit_of outbox_object event ≡ false → IsPosted rules log → IsPosted rules (Came event ∷ log)
one_posted rules event log e f g posted = (record { causes = e; number = f; apart = g }, posted)

-- a stop, where a frame was refused for a cause of its own
stop_posted : (rules : DeliveryRules) (id : Text) (attempt : ℕ) (frame : Frame) (cause : Cause) (causes : List Cause) (log : List Logged)
    → causes_of (events_of log) (Event.Move id attempt frame) ≡ cause ∷ causes → is_of_frame cause ≡ true → IsPosted rules log
    → IsPosted rules (Came (Event.Stop id attempt) ∷ log)
stop_posted rules id attempt frame cause causes log e f posted =
    let all : IsAccepted (added_by (Event.Move id attempt frame) (causes_of (events_of log) (Event.Move id attempt frame)) ++ events_of log) =
    after_all-accepted (Event.Move id attempt frame ∷ []) (events_of log) (posted_accepted rules log posted) in
    let stopped : IsAccepted (Event.Stop id attempt ∷ events_of log) =
    subst (λ (more : List Event). IsAccepted (more ++ events_of log)) (ap (λ (b : Bool). if b then Event.Stop id attempt ∷ [] else []) f)
    (subst (λ (all : List Cause). IsAccepted (added_by (Event.Move id attempt frame) all ++ events_of log)) e all) in
    one_posted rules (Event.Stop id attempt) log stopped.0 refl refl posted

-- for want of a number a frame waits
number_waits : (outbox : Outbox) (event : Event) (cause : Cause) (causes : List Cause) → number_causes outbox event ≡ cause ∷ causes → is_of_frame cause ≡ false
number_waits outbox event cause causes e = by_test (asks_others event && nat_le (2 ^ 64 - 1) outbox.given) e
  where
    by_test : (b : Bool) → those_that_hold ((b, Cause.NumbersUsedUp) ∷ []) ≡ cause ∷ causes → is_of_frame cause ≡ false
    by_test true f = sym (ap is_of_first f)
      where
        is_of_first : List Cause → Bool
        is_of_first [] = false
        is_of_first (first ∷ rest) = is_of_frame first
    by_test false f = cc

found_number : (number : ℕ) (rows : List OwedRow) (row : OwedRow) → find (has_number number) rows ≡ Some row → row.number ≡ number
found_number number [] row e = cc
found_number number (first ∷ rows) row e = by_number (has_number number first) refl e (found_number number rows row)
  where
    some_same : (a b : OwedRow) → Some a ≡ Some b → a ≡ b
    some_same a b e = cc

    by_number : (b : Bool) → has_number number first ≡ b → (if b then Some first else find (has_number number) rows) ≡ Some row
        → (find (has_number number) rows ≡ Some row → row.number ≡ number) → row.number ≡ number
    by_number true f g later = ap (λ (it : OwedRow). it.number) (sym (some_same first row g)) ∙ eqb-true first.number number f
    by_number false f g later = later g

asked_posted : (rules : DeliveryRules) (log : List Logged) (event : Event) (front behind : List Cause) → causes_of (events_of log) event ≡ front
    → number_causes (outbox_of log) event ≡ behind → is_edit_of outbox_object event ≡ false → IsPosted rules log
    → IsPosted rules (came (added_by event (front ++ behind)) log)
asked_posted rules log event [] [] e f g posted = one_posted rules event log e f g posted
asked_posted rules log (Event.Move id attempt frame) [] (cause ∷ causes) e f g posted =
    subst (λ (b : Bool). IsPosted rules (came (if b then Event.Stop id attempt ∷ [] else []) log)) (sym (number_waits (outbox_of log) (Event.Move id attempt frame) cause causes f)) posted
asked_posted rules log event [] (cause ∷ causes) e f g posted = posted
asked_posted rules log (Event.Move id attempt frame) (cause ∷ causes) behind e f g posted = by_frame (is_of_frame cause) refl
  where
    by_frame : (b : Bool) → is_of_frame cause ≡ b → IsPosted rules (came (if b then Event.Stop id attempt ∷ [] else []) log)
    by_frame true h = stop_posted rules id attempt frame cause causes log e h posted
    by_frame false h = posted
asked_posted rules log event (cause ∷ causes) behind e f g posted = posted

message_posted : (rules : DeliveryRules) (log : List Logged) (id : Text) (row : OwedRow) (o : Option Message) → find (has_number row.number) (outbox_of log).rows ≡ Some row
    → message_at (events_of log) row.sender row.place ≡ o → IsPosted rules log → IsPosted rules (after_message rules log id row o)
message_posted rules log id row None e f posted = posted
message_posted rules log id row (Some message) e f posted = by_brought (bring rules (kept_of log) row.sender id message) refl
  where
    by_brought : (o : Option (List Event)) → bring rules (kept_of log) row.sender id message ≡ o → IsPosted rules (logged row o log)
    by_brought None g = posted
    by_brought (Some brought) g = (record { found = e; message = message; id = id; recorded = f; brings = g }, posted)

row_posted : (rules : DeliveryRules) (log : List Logged) (number : ℕ) (id : Text) (o : Option OwedRow) → find (has_number number) (outbox_of log).rows ≡ o
    → IsPosted rules log → IsPosted rules (after_delivery rules log id o)
row_posted rules log number id None e posted = posted
row_posted rules log number id (Some row) e posted =
    message_posted rules log id row (message_at (events_of log) row.sender row.place)
    (subst (λ (n : ℕ). find (has_number n) (outbox_of log).rows ≡ Some row) (sym (found_number number (outbox_of log).rows row e)) e) refl posted

step_posted : (rules : DeliveryRules) (log : List Logged) (step : Step) → IsPosted rules log → IsPosted rules (after_step rules log step)
step_posted rules log (Asked event) posted = by_edit (is_edit_of outbox_object event) refl
  where
    by_edit : (b : Bool) → is_edit_of outbox_object event ≡ b → IsPosted rules (if b then log else came (added_by event (causes_in log event)) log)
    by_edit true e = posted
    by_edit false e =
        asked_posted rules log event (causes_of (events_of log) event) (number_causes (outbox_of log) event) refl refl e posted
step_posted rules log (Deliver number id) posted = row_posted rules log number id (find (has_number number) (outbox_of log).rows) refl posted
step_posted rules log (Forget ids) posted = by_test (list_all (may_forget log) ids) refl
  where
    by_test : (b : Bool) → list_all (may_forget log) ids ≡ b → IsPosted rules (if b then Forgot ids ∷ log else log)
    by_test true e = (e, posted)
    by_test false e = posted

pub steps_posted : (rules : DeliveryRules) (steps : List Step) (log : List Logged) → IsPosted rules log → IsPosted rules (after_steps rules log steps)
steps_posted rules [] log posted = posted
steps_posted rules (step ∷ steps) log posted = steps_posted rules steps (after_step rules log step) (step_posted rules log step posted)

pub first_posted : (rules : DeliveryRules) (before : List Event) → IsAccepted before → IsPosted rules (Found before ∷ [])
first_posted rules before accepted = (record { accepted = accepted; first = refl }, tt)

-- ---- what is recorded stays

behind_stays : (entries rest : List Entry) (n : ℕ) (message : Message) → message_in (entry_behind entries n) ≡ Some message
    → message_in (entry_behind (entries ++ rest) n) ≡ Some message
behind_stays [] rest n message e = cc
behind_stays (entry ∷ entries) rest zero message e = e
behind_stays (entry ∷ entries) rest (suc n) message e = behind_stays entries rest n message e

at_stays : (entries rest : List Entry) (place : ℕ) (message : Message) → message_in (entry_at entries place) ≡ Some message
    → message_in (entry_at (entries ++ rest) place) ≡ Some message
at_stays entries rest zero message e = e
at_stays entries rest (suc n) message e = behind_stays entries rest n message e

nothing_at : (place : ℕ) → message_in (entry_at [] place) ≡ None
nothing_at zero = refl
nothing_at (suc n) = refl

-- one event more changes nothing of what was recorded
event_stays : (event : Event) (events : List Event) (sender : Text) (place : ℕ) (message : Message) → IsAccepted (event ∷ events)
    → message_at events sender place ≡ Some message → message_at (event ∷ events) sender place ≡ Some message
event_stays event events sender place message accepted e = by_begin (begins sender event) refl
  where
    by_begin : (b : Bool) → begins sender event ≡ b → message_at (event ∷ events) sender place ≡ Some message
    by_begin true f =
        let empty : entries_of events sender ≡ [] = no_entries (starting_state events sender) events accepted.1 sender (not_begun event events sender accepted f) in
        absurd (some_not (sym (nothing_at place) ∙ sym (ap (λ (entries : List Entry). message_in (entry_at entries place)) empty) ∙ e))
      where
        some_not : ◌≡◌ {A = Option Message} None (Some message) → ⊥
        some_not e = cc
    by_begin false f =
        ap (λ (entries : List Entry). message_in (entry_at entries place)) (entries_now event events sender f)
        ∙ at_stays (entries_of events sender) (now.added_by events sender event) place message e

pub message_stays : (events more : List Event) (sender : Text) (place : ℕ) (message : Message) → IsAccepted (more ++ events)
    → message_at events sender place ≡ Some message → message_at (more ++ events) sender place ≡ Some message
message_stays events [] sender place message accepted e = e
message_stays events (event ∷ more) sender place message accepted e =
    event_stays event (more ++ events) sender place message accepted (message_stays events more sender place message accepted.1 e)

-- one that is not among those that are forgotten is told alike
pub told_others : (events : List Event) (ids : List Text) (other : Text) → is_among ids other ≡ false → IsToldAlike (without_all ids events) events other
told_others events ids other e =
    told_alike (without_all ids events) events other ((several_forget events ids).views other e) ((several_forget events ids).starts other e)

pub message_left : (events : List Event) (ids : List Text) (sender : Text) (place : ℕ) → is_among ids sender ≡ false
    → message_at (without_all ids events) sender place ≡ message_at events sender place
message_left events ids sender place e =
    ap (λ (entries : List Entry). message_in (entry_at entries place)) (told_others events ids sender e).entries

-- ---- calls

told_begins_none : (events : List Event) (id : Text) (sender : Text) (m : ℕ) (result : NotificationResult) (causes : List Cause)
    → invocation_begun (if_accepted (Event.Result sender m result) causes ++ events) id ≡ invocation_begun events id
told_begins_none events id sender m result [] = refl
told_begins_none events id sender m result (cause ∷ causes) = refl

begun_now : (events : List Event) (new : NewInvocation) → invocation_begun (Event.Invoke new ∷ events) new.id ≡ Some new
begun_now events new = rw (itself new.id) refl

call_made : (events : List Event) (new : NewInvocation) (sender : Text) (m : ℕ) (result : NotificationResult) (causes : List Cause) (brought : List Event)
    → bring_call events (Event.Invoke new) (Event.Result sender m result) causes ≡ Some brought
    → invocation_begun (brought ++ events) new.id ≡ Some new
call_made events new sender m result [] brought f =
    let more : List Event = if_accepted (Event.Result sender m result) (causes_of (Event.Invoke new ∷ events) (Event.Result sender m result)) in
    subst (λ (added : List Event). invocation_begun (added ++ events) new.id ≡ Some new) (ap items f)
    (ap (λ (all : List Event). invocation_begun all new.id) (append_assoc more (Event.Invoke new ∷ []) events)
    ∙ told_begins_none (Event.Invoke new ∷ events) new.id sender m result (causes_of (Event.Invoke new ∷ events) (Event.Result sender m result))
    ∙ begun_now events new)
call_made events new sender m result (cause ∷ causes) brought f = cc

pub calls_made : (rules : DeliveryRules) (kept : Kept) (sender id : Text) (call : CallRecord) (time m : ℕ) (brought : List Event)
    → bring rules kept sender id (Makes call time m) ≡ Some brought
    → (may_name (id_told kept.events sender m) id ≡ true) × (invocation_begun (brought ++ kept.events) id ≡ Some (new_for rules kept.events sender call id))
calls_made rules kept sender id call time m brought f = by_name (may_name (id_told kept.events sender m) id) f
  where
    new : NewInvocation
    new = new_for rules kept.events sender call id

    result : NotificationResult
    result = NotificationResult.InvocationId id

    by_name : (b : Bool) → (if b then bring_call kept.events (Event.Invoke new) (Event.Result sender m result) (causes_of kept.events (Event.Invoke new)) else None) ≡ Some brought
        → (b ≡ true) × (invocation_begun (brought ++ kept.events) id ≡ Some new)
    by_name true g = (refl, call_made kept.events new sender m result (causes_of kept.events (Event.Invoke new)) brought g)
    by_name false g = cc

-- ---- signals

arrives : (events : List Event) (target : Text) (key : SignalKey) (result : NotificationResult) (causes : List Cause)
    → Arrives events target key result (if_accepted (Event.Signal target key result) causes) causes
arrives events target key result [] =
    let event : Event = Event.Signal target key result in
    arrivals_now event events target refl ∙ ap (λ (more : List Arrival). recorded_arrivals events target ++ more) (own (bytes_eq target target) (itself target))
  where
    own : (b : Bool) → b ≡ true → arrivals_in (if b || false then Entry.Arrived (record { id = id_of_signal key; result = result }) ∷ [] else []) ≡ record { id = id_of_signal key; result = result } ∷ []
    own true e = refl
    own false e = cc
arrives events target key result (cause ∷ causes) = refl

pub signals_arrive : (rules : DeliveryRules) (kept : Kept) (sender id target : Text) (key : SignalKey) (result : NotificationResult) (brought : List Event)
    → bring rules kept sender id (Tells target key result) ≡ Some brought → ArrivesAt kept.events target key result brought
signals_arrive rules kept sender id target key result brought f = by_waiting (is_to_be_made kept target) f
  where
    by_waiting : (b : Bool) → (if b then None else Some (signal_brought kept.events target key result)) ≡ Some brought → ArrivesAt kept.events target key result brought
    by_waiting true g = cc
    by_waiting false g =
        subst (λ (added : List Event). ArrivesAt kept.events target key result added) (ap items g)
        (arrives kept.events target key result (causes_of kept.events (Event.Signal target key result)))

pub values_arrive : (rules : DeliveryRules) (kept : Kept) (sender id text : Text) (result : NotificationResult) (brought : List Event)
    → bring rules kept sender id (Completes text result) ≡ Some brought → ValueArrives kept.events (rules.awakeable text) result brought
values_arrive rules kept sender id text result brought f =
    subst (λ (added : List Event). ValueArrives kept.events (rules.awakeable text) result added) (ap items f) (by_named (rules.awakeable text))
  where
    by_named : (o : Option (Text × ℕ)) → ValueArrives kept.events o result (value_brought kept.events o result)
    by_named None = refl
    by_named (Some named) =
        arrives kept.events named.0 (SignalKey.ByIndex named.1) result (causes_of kept.events (Event.Signal named.0 (SignalKey.ByIndex named.1) result))

-- ---- what need not wait is delivered

pub advances : (rules : DeliveryRules) (log : List Logged) (row : OwedRow) (id : Text) (message : Message) (brought : List Event)
    → find (has_number row.number) (outbox_of log).rows ≡ Some row → message_at (events_of log) row.sender row.place ≡ Some message
    → bring rules (kept_of log) row.sender id message ≡ Some brought
    → after_step rules log (Deliver row.number id) ≡ Delivered row brought ∷ log
advances rules log row id message brought e f g =
    ap (after_delivery rules log id) e
    ∙ ap (after_message rules log id row) f
    ∙ ap (λ (o : Option (List Event)). logged row o log) g
