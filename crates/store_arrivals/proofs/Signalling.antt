-- What is made ready of a signal, and of a cancellation, is what the event writes.
use Rattle.std.proofs.Common.{ℕ, ◌+◌, ◌-◌, ◌^◌, nat_lt, arith, ◌≡◌, refl, sym, ap, subst, ◌∙◌, List, [], ◌∷◌, ◌++◌, length, Some, Result, Ok, Err}
use Rattle.journal_model.specs.Notification.{Text, Arrival}
use Rattle.journal_model.specs.declared.notification.NotificationResult.{NotificationResult}
use Rattle.journal_model.specs.declared.notification.SignalKey.{SignalKey}
use Rattle.journal_model.specs.Event.{Event}
use Rattle.journal_model.specs.Spelling.{notification_payload}
use Rattle.journal_model.specs.Journal.{Entry, Arrived, entries_of, entries_of_event, id_of_signal, object_of, starting_state}
use Rattle.journal_model.specs.Attempt.{notification_type}
use Rattle.journal_model.specs.Cause.{Tests, IsAccepted, adding_tests, causes_of, entry_tests, is_too_long, open_tests, own_tests, those_that_hold}
use Rattle.journal_model.specs.declared.cause.Cause.{Cause}
use Rattle.store_tables.specs.declared.row.InvocationRow.{InvocationRow}
use Rattle.store_tables.specs.declared.row.Progress.{Progress}
use Rattle.store_tables.specs.declared.row.Write.{Write}
use Rattle.store_tables.specs.declared.row.Write.TheVariants.{SetProgress, AddEntry}
use Rattle.store_model.specs.Progress.{progress_of}
use Rattle.store_model.specs.KeptRecords.{plain_row, answered_by, entry_row}
use Rattle.store_model.specs.Writes.{invocation_writes, writes_of}
use Rattle.store_model.specs.Steps.{grown, noted_into}
use Rattle.due_laws.specs.AwakeNotes.{Noted}
use Rattle.due_laws.proofs.Noting.{noted_follows}
use Rattle.store_model.proofs.States.{itself}
use Rattle.store_model.proofs.Following.{follows}
use Rattle.store_model.proofs.Opening.{or_nothing}
use Rattle.store_refusals.specs.declared.refusal.Refusal.{Refusal}
use Rattle.store_refusals.specs.RefusalConditions.{IsRefused, refusal_by}
use Rattle.store_invocations.specs.Rows.{Decides, IsOpenRow}
use Rattle.store_invocations.proofs.Refusing.{none_of_both, refused_by, refused_later, refused_more}
use Rattle.store_arrivals.specs.declared.arrival.PreparedArrival.{PreparedArrival}
use Rattle.store_arrivals.specs.Arrivals.{HasFewArrivals, IsArrival, IsMadeReady, arrival_tests}
use Rattle.store_arrivals.specs.Signals.{cancellation, signal_arrival, signal_tests}
use Rattle.store_arrivals.proofs.Written.{few_arrivals, no_state, none_against_open, row_named, row_progress}
use Rattle.store_arrivals.specs.ArrivalRows.{flagged, row_then}
use Rattle.protocol_types.specs.declared.message_type.MessageType.{MessageType}
use Rattle.protocol_types.specs.declared.message_type.MessageType.TheVariants.{SignalNotification}

-- ---- an event by which one arrival comes

one_more : (n : ℕ) → n + 1 ≡ 1 + n
one_more n = omega arith

-- how far the invocation is with it, and awake or not
abbrev far_with : List Event → Text → Arrival → Progress
far_with events id arrival = grown 1 1 (flagged events id (arrival ∷ []) (progress_of events id))

-- what such an event writes
abbrev arrival_writes : List Event → Text → Arrival → List Write
arrival_writes events id arrival =
    AddEntry (entry_row id (entries_of events id) (1 + length (entries_of events id)) (Arrived arrival)) ∷ SetProgress id (far_with events id arrival) ∷ []

module _ (events : List Event) (event : Event) (id : Text) (arrival : Arrival) (first : Tests) (adds : entries_of_event (starting_state events id) (entries_of events id) event ≡ Arrived arrival ∷ [])
    (tests : causes_of events event ≡ those_that_hold (open_tests events id ++ (first ++ adding_tests events id event)))
    (writes : IsAccepted (event ∷ events) → writes_of events event ≡ arrival_writes events id arrival) (accepted : IsAccepted events)
    (row : InvocationRow) (of : IsOpenRow events id row) (kind : MessageType) (typed : kind ≡ notification_type (entries_of events id) arrival.id) where
  -- the tests of one more entry
  tests_are : arrival_tests row arrival ≡ adding_tests events id event
  tests_are =
      let entries = length (entries_of events id) in
      (λ i. (nat_lt (2 ^ 32 - 2) ((ap (λ (p : Progress). p.entries) (row_progress events id row of.0) ∙ sym (one_more entries)) i), Cause.NumbersUsedUp)
      ∷ (sym (or_nothing (is_too_long (notification_payload arrival))) i, Cause.PayloadTooLong) ∷ [])
      ∙ ap (entry_tests (entries_of events id)) (sym adds)

  made_ready : (made : PreparedArrival) → causes_of events event ≡ [] → IsArrival (row_then events id (arrival ∷ []) row) kind arrival made → IsMadeReady events event id made
  made_ready made none is =
      let named = row_named events id row of.0 in
      let far = row_progress events id row of.0 in
      record {
        writes = is.writes (subst HasFewArrivals (sym far) (few_arrivals events id))
            ∙ (λ i. AddEntry (record (plain_row (named i) (far i).entries (typed i) (notification_payload arrival)) { answered = answered_by arrival.id; arrival = Some (1 + (far i).arrivals) })
            ∷ SetProgress (named i) (grown 1 1 (flagged events id (arrival ∷ []) (far i))) ∷ [])
            ∙ sym (writes (none, accepted));
        place = is.place ∙ ap (λ (p : Progress). p.entries) far;
      }

  -- behind other tests of the event, of which none holds
  pub all_ready : those_that_hold first ≡ [] → (r : Result PreparedArrival Refusal) → Decides (arrival_tests row arrival) (IsArrival (row_then events id (arrival ∷ []) row) kind arrival) r
      → Decides (first ++ adding_tests events id event) (IsMadeReady events event id) r
  all_ready none (Ok made) decided =
      let own = none_of_both first (adding_tests events id event) none (ap those_that_hold (sym tests_are) ∙ decided.0) in
      (own, made_ready made (tests ∙ none_of_both (open_tests events id) (first ++ adding_tests events id event) (none_against_open events id of.1) own) decided.1)
  all_ready none (Err why) refused =
      refused_later first (adding_tests events id event) why none (subst (λ (tests : Tests). IsRefused (those_that_hold tests) why) tests_are refused)

-- ---- a signal, and a cancellation

signal_writes : (events : List Event) (id : Text) (key : SignalKey) (brought : NotificationResult) → IsAccepted (Event.Signal id key brought ∷ events)
    → writes_of events (Event.Signal id key brought) ≡ arrival_writes events id (signal_arrival key brought)
signal_writes events id key brought accepted =
    let event = Event.Signal id key brought in
    let entry = AddEntry (entry_row id (entries_of events id) (1 + length (entries_of events id)) (Arrived (signal_arrival key brought))) in
    ap (λ (writes : List Write). (invocation_writes events event id ++ []) ++ writes) (no_state (object_of events event))
    ∙ ap (λ (p : Progress). entry ∷ SetProgress id p ∷ [])
    (follows events event id refl refl ∙ ap (λ (noted : Noted). grown 1 1 (noted_into noted (progress_of events id))) (noted_follows events event id accepted (itself id) refl))

signal_type : (entries : List Entry) (key : SignalKey) → SignalNotification ≡ notification_type entries (id_of_signal key)
signal_type entries (SignalKey.ByIndex n) = refl
signal_type entries (SignalKey.ByName name) = refl

pub signal_ready : (events : List Event) (id : Text) (key : SignalKey) (brought : NotificationResult) (row : InvocationRow) → IsAccepted events → IsOpenRow events id row
    → those_that_hold (signal_tests key brought) ≡ [] → (r : Result PreparedArrival Refusal)
    → Decides (arrival_tests row (signal_arrival key brought)) (IsArrival (row_then events id (signal_arrival key brought ∷ []) row) SignalNotification (signal_arrival key brought)) r
    → Decides (own_tests events (Event.Signal id key brought)) (IsMadeReady events (Event.Signal id key brought) id) r
signal_ready events id key brought row accepted of none r decided =
    all_ready events (Event.Signal id key brought) id (signal_arrival key brought) (signal_tests key brought) refl refl (signal_writes events id key brought) accepted row of
    SignalNotification (signal_type (entries_of events id) key) none r decided

pub signal_refused : (events : List Event) (id : Text) (key : SignalKey) (brought : NotificationResult) (why : Refusal) → refusal_by (signal_tests key brought) ≡ Some why
    → IsRefused (those_that_hold (own_tests events (Event.Signal id key brought))) why
signal_refused events id key brought why first =
    refused_more (signal_tests key brought) (adding_tests events id (Event.Signal id key brought)) why (refused_by (signal_tests key brought) why first)

cancel_writes : (events : List Event) (id : Text) → IsAccepted (Event.Cancel id ∷ events) → writes_of events (Event.Cancel id) ≡ arrival_writes events id cancellation
cancel_writes events id accepted =
    let event = Event.Cancel id in
    let entry = AddEntry (entry_row id (entries_of events id) (1 + length (entries_of events id)) (Arrived cancellation)) in
    ap (λ (writes : List Write). (invocation_writes events event id ++ []) ++ writes) (no_state (object_of events event))
    ∙ ap (λ (p : Progress). entry ∷ SetProgress id p ∷ [])
    (follows events event id refl refl ∙ ap (λ (noted : Noted). grown 1 1 (noted_into noted (progress_of events id))) (noted_follows events event id accepted (itself id) refl))

pub cancel_ready : (events : List Event) (id : Text) (row : InvocationRow) → IsAccepted events → IsOpenRow events id row → (r : Result PreparedArrival Refusal)
    → Decides (arrival_tests row cancellation) (IsArrival (row_then events id (cancellation ∷ []) row) SignalNotification cancellation) r
    → Decides (own_tests events (Event.Cancel id)) (IsMadeReady events (Event.Cancel id) id) r
cancel_ready events id row accepted of r decided =
    all_ready events (Event.Cancel id) id cancellation [] refl refl (cancel_writes events id) accepted row of SignalNotification refl refl r decided
