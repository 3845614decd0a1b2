-- What an arrival makes ready.
use Rattle.std.specs.Prelude.{◌≡◌, ◌≤◌, ℕ, ◌+◌, ◌-◌, ◌^◌, nat_lt, Bool, true, List, [], ◌∷◌, ◌++◌, length, Option, Some, Result}
use Rattle.journal_model.specs.Notification.{Bytes, Text, Arrival}
use Rattle.journal_model.specs.declared.notification.NotificationResult.{NotificationResult}
use Rattle.journal_model.specs.declared.value.NonEmptyValue.{NonEmptyValue}
use Rattle.journal_model.specs.Value.{result_of_value}
use Rattle.journal_model.specs.Event.{Frame, Event}
use Rattle.journal_model.specs.Spelling.{notification_payload}
use Rattle.journal_model.specs.Journal.{entries_of, is_open}
use Rattle.journal_model.specs.Attempt.{is_live}
use Rattle.journal_model.specs.Cause.{Tests, adding_tests, frame_tests}
use Rattle.journal_model.specs.declared.cause.Cause.{Cause}
use Rattle.protocol_types.specs.declared.message_type.MessageType.{MessageType}
use Rattle.store_tables.specs.declared.row.InvocationRow.{InvocationRow}
use Rattle.store_tables.specs.declared.row.EntryRow.{EntryRow}
use Rattle.store_tables.specs.declared.row.Progress.{Progress}
use Rattle.store_tables.specs.declared.row.Write.TheVariants.{SetProgress, AddEntry}
use Rattle.store_model.specs.KeptRecords.{plain_row, answered_by}
use Rattle.store_model.specs.Writes.{writes_of}
use Rattle.store_model.specs.Steps.{grown}
use Rattle.store_invocations.specs.Rows.{Decides, payload_tests}
use Rattle.store_refusals.specs.declared.refusal.Refusal.{Refusal}
use Rattle.store_arrivals.specs.declared.arrival.PreparedArrival.{PreparedArrival}

-- its entry, behind those of the invocation that has this row
abbrev pub entry_of_arrival : InvocationRow → MessageType → Option ℕ → Bytes → EntryRow
entry_of_arrival row kind answered payload = record (plain_row row.id row.progress.entries kind payload) { answered = answered; arrival = Some (1 + row.progress.arrivals) }

-- the tests of one more entry
abbrev pub arrival_tests : InvocationRow → Arrival → Tests
arrival_tests row arrival = (nat_lt (2 ^ 32 - 2) row.progress.entries, Cause.NumbersUsedUp) ∷ payload_tests (notification_payload arrival)

-- an invocation has no more arrivals than entries
abbrev pub HasFewArrivals : Progress → Type 0
HasFewArrivals p = p.arrivals ≤ p.entries

-- made ready by its payload
pub record IsArrivalWritten (row : InvocationRow) (kind : MessageType) (answered : Option ℕ) (payload : Bytes) (made : PreparedArrival) : Type 0 where
  pub writes : HasFewArrivals row.progress → made.writes.items ≡ AddEntry (entry_of_arrival row kind answered payload) ∷ SetProgress row.id (grown 1 1 row.progress) ∷ []
  pub place : made.place ≡ row.progress.entries

-- made ready of the invocation that has this row
abbrev pub IsArrival : InvocationRow → MessageType → Arrival → PreparedArrival → Type 0
IsArrival row kind arrival = IsArrivalWritten row kind (answered_by arrival.id) (notification_payload arrival)

-- made ready of an event that adds an arrival to an invocation: what the event writes
pub record IsMadeReady (events : List Event) (event : Event) (id : Text) (made : PreparedArrival) : Type 0 where
  pub writes : made.writes.items ≡ writes_of events event
  pub place : made.place ≡ 1 + length (entries_of events id)

-- made ready of the outcome of a run, whichever live attempt of an open invocation proposes it, or refused
abbrev pub DecidesOutcome : List Event → Text → ℕ → NotificationResult → Result PreparedArrival Refusal → Type 0
DecidesOutcome events id n brought result = (number : ℕ) (value : NonEmptyValue) (asks : Bool)
    → is_open events id ≡ true → is_live events id number ≡ true → brought ≡ result_of_value value
    → Decides (frame_tests events id (Frame.RunOutcome n value asks) ++ adding_tests events id (Event.Move id number (Frame.RunOutcome n value asks)))
    (IsMadeReady events (Event.Move id number (Frame.RunOutcome n value asks)) id) result
