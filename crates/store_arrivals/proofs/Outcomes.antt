-- The outcome of a run is made ready as any arrival is, of a run that waits for it.
use Rattle.std.proofs.Common.{ℕ, ◌+◌, ◌≡◌, refl, sym, ap, subst, ◌∙◌, Bool, true, false, not, List, [], ◌∷◌, ◌++◌, length, Option, Some, None, option_map, Result, Ok, Err}
use Rattle.journal_model.specs.Notification.{Text}
use Rattle.journal_model.specs.declared.notification.NotificationResult.{NotificationResult}
use Rattle.journal_model.specs.declared.notification.NotificationId.TheVariants.{CompletionId}
use Rattle.journal_model.specs.declared.value.NonEmptyValue.{NonEmptyValue}
use Rattle.journal_model.specs.Value.{result_of_value}
use Rattle.journal_model.specs.Request.{Request}
use Rattle.journal_model.specs.Spelling.{request_type, notification_payload}
use Rattle.journal_model.specs.Event.{Frame, Event}
use Rattle.journal_model.specs.Journal.{Entry, Arrived, completion, entries_of, object_of, open_request, is_open}
use Rattle.journal_model.specs.Attempt.{notification_type, type_of_completion, is_live}
use Rattle.journal_model.specs.Cause.{Tests, adding_tests, frame_tests, is_run, those_that_hold, IsAccepted, causes_of, live_tests, open_tests, own_tests}
use Rattle.journal_model.specs.declared.cause.Cause.{Cause}
use Rattle.protocol_types.specs.declared.message_type.MessageType.TheVariants as types
use Rattle.store_tables.specs.declared.row.InvocationRow.{InvocationRow}
use Rattle.store_tables.specs.declared.row.Progress.{Progress}
use Rattle.store_tables.specs.declared.row.Write.{Write}
use Rattle.store_tables.specs.declared.row.Write.TheVariants.{SetProgress, AddEntry}
use Rattle.store_model.specs.KeptRecords.{entry_row, plain_row}
use Rattle.store_model.specs.Writes.{invocation_writes, writes_of}
use Rattle.store_model.proofs.Following.{follows}
use Rattle.protocol_types.specs.declared.message_type.MessageType.{MessageType}
use Rattle.store_model.specs.Steps.{grown, noted_into}
use Rattle.store_model.specs.Progress.{progress_of}
use Rattle.store_model.proofs.States.{itself}
use Rattle.due_laws.specs.AwakeNotes.{Noted}
use Rattle.due_laws.proofs.Noting.{noted_follows}
use Rattle.store_refusals.specs.declared.refusal.Refusal.{Refusal}
use Rattle.store_refusals.specs.declared.refusal.Refusal.TheVariants as refusal
use Rattle.store_refusals.specs.RefusalConditions.{IsRefused}
use Rattle.store_invocations.specs.Rows.{Decides, IsRowOf}
use Rattle.store_invocations.proofs.Refusing.{first_of_one, none_of_both, none_of_one, refused_anyway, refused_later, refused_more}
use Rattle.store_arrivals.specs.declared.arrival.PreparedArrival.{PreparedArrival}
use Rattle.store_arrivals.specs.declared.asking.AskedCompletion.{AskedCompletion}
use Rattle.store_arrivals.specs.Arrivals.{DecidesOutcome, IsArrival, IsMadeReady, arrival_tests, HasFewArrivals}
use Rattle.store_arrivals.specs.AskedCompletions.{completion_asked_by, is_run_command}
use Rattle.store_arrivals.proofs.Completing.{asking_of_open}
use Rattle.store_arrivals.proofs.Written.{no_state, tests_are, few_arrivals, none_against_open, row_named, row_progress}

-- ---- whether a run is open

run_named : (request : Request) → is_run_command (request_type request) ≡ is_run (Some request)
run_named (Request.Run n name) = refl
run_named _ = refl

pub run_told : (n : ℕ) (o : Option Request) (asked : AskedCompletion) → Some asked ≡ option_map (completion_asked_by n) o → is_run_command asked.ty ≡ is_run o
run_told n None asked e = cc
run_told n (Some request) asked e = ap (λ (a : AskedCompletion). is_run_command a.ty) (same asked (completion_asked_by n request) e) ∙ run_named request
  where
    same : (one other : AskedCompletion) → Some one ≡ Some other → one ≡ other
    same one other e = cc

pub no_run_told : (n : ℕ) (o : Option Request) → None ≡ option_map (completion_asked_by n) o → false ≡ is_run o
no_run_told n None e = refl
no_run_told n (Some request) e = cc

-- its notification's type
run_typed : (entries : List Entry) (n : ℕ) → is_run (open_request entries n) ≡ true → types.RunCompletionNotification ≡ notification_type entries (CompletionId n)
run_typed entries n e = by_request (open_request entries n) refl e
  where
    by_request : (o : Option Request) → open_request entries n ≡ o → is_run o ≡ true → types.RunCompletionNotification ≡ notification_type entries (CompletionId n)
    by_request None is e = cc
    by_request (Some (Request.Run k name)) is e = ap (λ (o : Option Request). type_of_completion o n) (sym (asking_of_open entries n (Request.Run k name) is))
    by_request (Some _) is e = cc

-- ---- what is made ready

-- how far the invocation is then: whether it is awake does not change, since an attempt of it is live
far_then : (events : List Event) (id : Text) (number n : ℕ) (value : NonEmptyValue) (asks : Bool) → IsAccepted (Event.Move id number (Frame.RunOutcome n value asks) ∷ events)
    → progress_of (Event.Move id number (Frame.RunOutcome n value asks) ∷ events) id ≡ grown 1 1 (progress_of events id)
far_then events id number n value asks accepted =
    let event = Event.Move id number (Frame.RunOutcome n value asks) in
    follows events event id refl refl
    ∙ ap (λ (noted : Noted). grown 1 1 (noted_into noted (progress_of events id))) (noted_follows events event id accepted (itself id) refl)

outcome_writes : (events : List Event) (id : Text) (number n : ℕ) (value : NonEmptyValue) (asks : Bool) → IsAccepted (Event.Move id number (Frame.RunOutcome n value asks) ∷ events)
    → writes_of events (Event.Move id number (Frame.RunOutcome n value asks))
    ≡ AddEntry (entry_row id (entries_of events id) (1 + length (entries_of events id)) (Arrived (completion n (result_of_value value)))) ∷ SetProgress id (grown 1 1 (progress_of events id)) ∷ []
outcome_writes events id number n value asks accepted =
    let event = Event.Move id number (Frame.RunOutcome n value asks) in
    let entry = AddEntry (entry_row id (entries_of events id) (1 + length (entries_of events id)) (Arrived (completion n (result_of_value value)))) in
    ap (λ (writes : List Write). (invocation_writes events event id ++ []) ++ writes) (no_state (object_of events event))
    ∙ ap (λ (p : Progress). entry ∷ SetProgress id p ∷ []) (far_then events id number n value asks accepted)

module _ (events : List Event) (accepted : IsAccepted events) (id : Text) (n : ℕ) (row : InvocationRow) (of : IsRowOf events id row) (waits : is_run (open_request (entries_of events id) n) ≡ true) where
  open_run : those_that_hold ((not (is_run (open_request (entries_of events id) n)), Cause.RunNotOpen) ∷ []) ≡ []
  open_run = none_of_one (not (is_run (open_request (entries_of events id) n))) Cause.RunNotOpen (ap not waits)

  -- it is accepted then
  none_against : (number : ℕ) (value : NonEmptyValue) (asks : Bool) → is_open events id ≡ true → is_live events id number ≡ true
      → those_that_hold (frame_tests events id (Frame.RunOutcome n value asks) ++ adding_tests events id (Event.Move id number (Frame.RunOutcome n value asks))) ≡ []
      → causes_of events (Event.Move id number (Frame.RunOutcome n value asks)) ≡ []
  none_against number value asks opened live none =
      let frame = Frame.RunOutcome n value asks in
      let event = Event.Move id number (Frame.RunOutcome n value asks) in
      none_of_both (open_tests events id) (own_tests events event) (none_against_open events id opened)
      (none_of_both (live_tests events id number) (frame_tests events id frame ++ adding_tests events id event)
      (none_of_one (not (is_live events id number)) Cause.AttemptNotLive (ap not live)) none)

  ready : (number : ℕ) (value : NonEmptyValue) (asks : Bool) → is_open events id ≡ true → is_live events id number ≡ true → (r : Result PreparedArrival Refusal)
      → Decides (arrival_tests row (completion n (result_of_value value))) (IsArrival row types.RunCompletionNotification (completion n (result_of_value value))) r
      → Decides (frame_tests events id (Frame.RunOutcome n value asks) ++ adding_tests events id (Event.Move id number (Frame.RunOutcome n value asks)))
      (IsMadeReady events (Event.Move id number (Frame.RunOutcome n value asks)) id) r
  ready number value asks opened live (Ok made) decided =
      let event = Event.Move id number (Frame.RunOutcome n value asks) in
      let brought = result_of_value value in
      let named = row_named events id row of in
      let far = row_progress events id row of in
      let typed = run_typed (entries_of events id) n waits in
      let none = none_of_both (frame_tests events id (Frame.RunOutcome n value asks)) (adding_tests events id event) open_run
      (ap those_that_hold (sym (tests_are events id n (result_of_value value) row of)) ∙ decided.0) in (
        none,
        record {
          writes = decided.1.writes (subst HasFewArrivals (sym far) (few_arrivals events id))
              ∙ (λ i. AddEntry (record (plain_row (named i) (far i).entries (typed i) (notification_payload (completion n brought))) { answered = Some n; arrival = Some (1 + (far i).arrivals) })
              ∷ SetProgress (named i) (grown 1 1 (far i)) ∷ [])
              ∙ sym (outcome_writes events id number n value asks (none_against number value asks opened live none, accepted));
          place = decided.1.place ∙ ap (λ (p : Progress). p.entries) far;
        },
      )
  ready number value asks opened live (Err why) refused =
      refused_later (frame_tests events id (Frame.RunOutcome n value asks)) (adding_tests events id (Event.Move id number (Frame.RunOutcome n value asks))) why open_run
      (subst (λ (tests : Tests). IsRefused (those_that_hold tests) why) (tests_are events id n (result_of_value value) row of) refused)

  pub outcome_ready : (brought : NotificationResult) (r : Result PreparedArrival Refusal)
      → Decides (arrival_tests row (completion n brought)) (IsArrival row types.RunCompletionNotification (completion n brought)) r → DecidesOutcome events id n brought r
  outcome_ready brought r decided number value asks opened live same =
      subst (λ (b : NotificationResult). Decides (frame_tests events id (Frame.RunOutcome n value asks) ++ adding_tests events id (Event.Move id number (Frame.RunOutcome n value asks)))
      (IsMadeReady events (Event.Move id number (Frame.RunOutcome n value asks)) id) r) (sym same)
      (ready number value asks opened live r
      (subst (λ (b : NotificationResult). Decides (arrival_tests row (completion n b)) (IsArrival row types.RunCompletionNotification (completion n b)) r) same decided))

-- ---- why it is refused

pub none_waits : (events : List Event) (id : Text) (n : ℕ) (brought : NotificationResult) → is_run (open_request (entries_of events id) n) ≡ false → DecidesOutcome events id n brought (Err (refusal.Cause Cause.RunNotOpen))
none_waits events id n brought none number value asks opened live same =
    refused_more (frame_tests events id (Frame.RunOutcome n value asks)) (adding_tests events id (Event.Move id number (Frame.RunOutcome n value asks))) (refusal.Cause Cause.RunNotOpen)
    (first_of_one (not (is_run (open_request (entries_of events id) n))) Cause.RunNotOpen (ap not none))

pub unanswered : (events : List Event) (id : Text) (n : ℕ) (brought : NotificationResult) (why : Refusal) → IsRefused [] why → DecidesOutcome events id n brought (Err why)
unanswered events id n brought why refused number value asks opened live same =
    refused_anyway (frame_tests events id (Frame.RunOutcome n value asks) ++ adding_tests events id (Event.Move id number (Frame.RunOutcome n value asks))) why refused
