-- What is made ready of an arrival is what its event writes.
use Rattle.std.proofs.Common.{ℕ, Bool, true, false, ◌&&◌, not, is_some, ◌+◌, ◌-◌, ◌^◌, ◌≤◌, nat_lt, arith, ◌≡◌, refl, sym, ap, subst, ◌∙◌, List, [], ◌∷◌, ◌++◌, length, Option, Some, None, Result, Ok, Err}
use Rattle.journal_model.specs.Notification.{Bytes, Text, Arrival}
use Rattle.journal_model.specs.declared.notification.NotificationResult.{NotificationResult}
use Rattle.journal_model.specs.declared.notification.NotificationId.TheVariants.{CompletionId}
use Rattle.journal_model.specs.Event.{Event}
use Rattle.journal_model.specs.Spelling.{notification_payload}
use Rattle.journal_model.specs.Journal.{Entry, Arrived, Recorded, arrivals_in, completion, entries_of, invocation_begun, is_open, object_of}
use Rattle.journal_model.specs.Attempt.{notification_type}
use Rattle.journal_model.specs.Cause.{Tests, IsAccepted, adding_tests, causes_of, open_tests, own_tests, those_that_hold, is_too_long}
use Rattle.journal_model.specs.declared.cause.Cause.{Cause}
use Rattle.store_tables.specs.declared.row.InvocationRow.{InvocationRow}
use Rattle.store_tables.specs.declared.row.Progress.{Progress}
use Rattle.store_tables.specs.declared.row.Write.{Write}
use Rattle.store_tables.specs.declared.row.Write.TheVariants.{SetProgress, AddEntry}
use Rattle.store_model.specs.Progress.{progress_of}
use Rattle.store_model.specs.KeptRecords.{plain_row, answered_by, entry_row}
use Rattle.store_model.specs.Writes.{invocation_writes, state_writes, writes_of}
use Rattle.store_model.proofs.Opening.{or_nothing}
use Rattle.store_model.specs.Steps.{grown, noted_into}
use Rattle.store_model.proofs.Following.{follows}
use Rattle.store_model.proofs.States.{itself}
use Rattle.due_laws.specs.AwakeNotes.{Noted}
use Rattle.due_laws.proofs.Noting.{noted_follows}
use Rattle.store_refusals.specs.declared.refusal.Refusal.{Refusal}
use Rattle.store_refusals.specs.RefusalConditions.{IsRefused}
use Rattle.store_invocations.specs.Rows.{Decides, IsOpenRow, IsRowOf}
use Rattle.store_invocations.proofs.Refusing.{none_of_both, refused_later}
use Rattle.store_arrivals.specs.AskedCompletions.{completion_tests}
use Rattle.store_arrivals.specs.ArrivalRows.{flagged, row_then}
use Rattle.store_arrivals.specs.declared.arrival.PreparedArrival.{PreparedArrival}
use Rattle.store_arrivals.specs.Arrivals.{HasFewArrivals, IsArrival, IsMadeReady, arrival_tests}
use Rattle.protocol_types.specs.declared.message_type.MessageType.{MessageType}

-- ---- the row, as the events tell it

pub row_named : (events : List Event) (id : Text) (row : InvocationRow) → IsRowOf events id row → row.id ≡ id
row_named events id row of = ap (λ (r : InvocationRow). r.id) of.is ∙ of.named

pub row_progress : (events : List Event) (id : Text) (row : InvocationRow) → IsRowOf events id row → row.progress ≡ progress_of events id
row_progress events id row of = ap (λ (r : InvocationRow). r.progress) of.is ∙ ap (progress_of events) of.named

arrivals_are_few : (entries : List Entry) → length (arrivals_in entries) ≤ length entries
arrivals_are_few [] = omega arith
arrivals_are_few (Recorded request ∷ entries) = let later = arrivals_are_few entries in omega (arith, later)
arrivals_are_few (Arrived arrival ∷ entries) = let later = arrivals_are_few entries in omega (arith, later)

pub few_arrivals : (events : List Event) (id : Text) → HasFewArrivals (progress_of events id)
few_arrivals events id = let few = arrivals_are_few (entries_of events id) in omega (arith, few)

-- ---- the tests of one more entry

one_more : (n : ℕ) → n + 1 ≡ 1 + n
one_more n = omega arith

pub tests_are : (events : List Event) (id : Text) (n : ℕ) (brought : NotificationResult) (row : InvocationRow) → IsRowOf events id row
    → arrival_tests row (completion n brought) ≡ adding_tests events id (Event.Result id n brought)
tests_are events id n brought row of =
    let entries = length (entries_of events id) in
    λ i. (nat_lt (2 ^ 32 - 2) ((ap (λ (p : Progress). p.entries) (row_progress events id row of) ∙ sym (one_more entries)) i), Cause.NumbersUsedUp)
    ∷ (sym (or_nothing (is_too_long (notification_payload (completion n brought)))) i, Cause.PayloadTooLong) ∷ []

-- ---- the writes

pub no_state : (object : Option Text) → state_writes object [] ≡ []
no_state None = refl
no_state (Some object) = refl

-- how far the invocation is then
far_then : (events : List Event) (id : Text) (n : ℕ) (brought : NotificationResult) → IsAccepted (Event.Result id n brought ∷ events)
    → progress_of (Event.Result id n brought ∷ events) id ≡ grown 1 1 (flagged events id (completion n brought ∷ []) (progress_of events id))
far_then events id n brought accepted =
    let event = Event.Result id n brought in
    follows events event id refl refl
    ∙ ap (λ (noted : Noted). grown 1 1 (noted_into noted (progress_of events id))) (noted_follows events event id accepted (itself id) refl)

pub writes_are : (events : List Event) (id : Text) (n : ℕ) (brought : NotificationResult) → IsAccepted (Event.Result id n brought ∷ events)
    → writes_of events (Event.Result id n brought)
    ≡ AddEntry (entry_row id (entries_of events id) (1 + length (entries_of events id)) (Arrived (completion n brought)))
    ∷ SetProgress id (grown 1 1 (flagged events id (completion n brought ∷ []) (progress_of events id))) ∷ []
writes_are events id n brought accepted =
    let event = Event.Result id n brought in
    let entry = AddEntry (entry_row id (entries_of events id) (1 + length (entries_of events id)) (Arrived (completion n brought))) in
    ap (λ (writes : List Write). (invocation_writes events event id ++ []) ++ writes) (no_state (object_of events event))
    ∙ ap (λ (p : Progress). entry ∷ SetProgress id p ∷ []) (far_then events id n brought accepted)

pub made_ready : (events : List Event) (id : Text) (n : ℕ) (brought : NotificationResult) (row : InvocationRow) (kind : MessageType) (made : PreparedArrival)
    → IsRowOf events id row → IsAccepted (Event.Result id n brought ∷ events) → kind ≡ notification_type (entries_of events id) (CompletionId n)
    → IsArrival (row_then events id (completion n brought ∷ []) row) kind (completion n brought) made
    → IsMadeReady events (Event.Result id n brought) id made
made_ready events id n brought row kind made of accepted typed is =
    let named = row_named events id row of in
    let far = row_progress events id row of in
    record {
      writes = is.writes (subst HasFewArrivals (sym far) (few_arrivals events id))
          ∙ (λ i. AddEntry (record (plain_row (named i) (far i).entries (typed i) (notification_payload (completion n brought))) { answered = Some n; arrival = Some (1 + (far i).arrivals) })
          ∷ SetProgress (named i) (grown 1 1 (flagged events id (completion n brought ∷ []) (far i))) ∷ [])
          ∙ sym (writes_are events id n brought accepted);
      place = is.place ∙ ap (λ (p : Progress). p.entries) far;
    }

-- ---- the whole call, of an open invocation

-- it is not refused for what it is
none_closed : (known opened : Bool) → (known && opened) ≡ true → those_that_hold ((not known, Cause.UnknownInvocation) ∷ (known && not (known && opened), Cause.InvocationClosed) ∷ []) ≡ []
none_closed true true e = refl
none_closed true false e = cc
none_closed false opened e = cc

pub none_against_open : (events : List Event) (id : Text) → is_open events id ≡ true → those_that_hold (open_tests events id) ≡ []
none_against_open events id opened = none_closed (is_some (invocation_begun events id)) _ opened

pub all_ready : (events : List Event) (id : Text) (n : ℕ) (brought : NotificationResult) (row : InvocationRow) (kind : MessageType) → IsAccepted events
    → IsOpenRow events id row → those_that_hold (completion_tests events id n brought) ≡ [] → kind ≡ notification_type (entries_of events id) (CompletionId n)
    → (r : Result PreparedArrival Refusal) → Decides (arrival_tests row (completion n brought)) (IsArrival (row_then events id (completion n brought ∷ []) row) kind (completion n brought)) r
    → Decides (own_tests events (Event.Result id n brought)) (IsMadeReady events (Event.Result id n brought) id) r
all_ready events id n brought row kind accepted of none typed (Ok made) decided =
    let event = Event.Result id n brought in
    let rest = ap those_that_hold (sym (tests_are events id n brought row of.0)) ∙ decided.0 in
    let own = none_of_both (completion_tests events id n brought) (adding_tests events id event) none rest in
    let causes : causes_of events event ≡ [] = none_of_both (open_tests events id) (own_tests events event) (none_against_open events id of.1) own in
    (own, made_ready events id n brought row kind made of.0 (causes, accepted) typed decided.1)
all_ready events id n brought row kind accepted of none typed (Err why) refused =
    refused_later (completion_tests events id n brought) (adding_tests events id (Event.Result id n brought)) why none
    (subst (λ (tests : Tests). IsRefused (those_that_hold tests) why) (tests_are events id n brought row of.0) refused)
