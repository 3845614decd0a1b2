-- What becomes of an acknowledgement of a run's outcome that comes.
use Rattle.std.specs.Prelude.{◌≡◌, ◌≢◌, pos, ℕ, Option, Some, None, Result, Ok, Err}
use Rattle.journal_model.specs.Journal.{completion}
use Rattle.journal_model.specs.Value.{result_of_value}
use Rattle.journal_model.specs.declared.value.NonEmptyValue.{NonEmptyValue}
use Rattle.protocol_controls.specs.ProposeRunCompletionAck.{propose_run_completion_ack_of}
use Rattle.protocol_controls.specs.declared.propose_run_completion_ack.ProposeRunCompletionAckMessage.{ProposeRunCompletionAckMessage}
use Rattle.protocol_messages.specs.Decodings.{DecodesTo}
use Rattle.protocol_stream.specs.declared.decoder.DecodingError.TheVariants as unread
use Rattle.protocol_stream.specs.declared.decoder.RawMessage.{RawMessage}
use Rattle.protocol_table.specs.declared.table.RecordType.TheVariants as records
use Rattle.vm_awaits.specs.Calls.{with_queued}
use Rattle.vm_awaits.specs.Views.{AsyncResults, results_of}
use Rattle.vm_calls.specs.declared.active.Active.{Active}
use Rattle.vm_runs.specs.Runs.{Runs, outcome_at, acknowledged}
use Rattle.vm_runs.specs.KeptBodies.{Acknowledges}
use Rattle.vm_machine.specs.declared.answers.Stage.{Stage}
use Rattle.vm_machine.specs.declared.answers.Stage.TheVariants as stages
use Rattle.vm_machine.specs.declared.entry_error.EntryError.{EntryError}
use Rattle.vm_machine.specs.declared.entry_error.EntryError.TheVariants.{Unexpected, Decoding, UnknownRun, OutOfMemory}
use Rattle.vm_machine.specs.declared.incoming.Incoming.TheVariants as incoming

-- the message acknowledges the outcome of this completion
pub record TellsRun (message : RawMessage) (number : ℕ) : Type 0 where
  pub whole : ProposeRunCompletionAckMessage
  pub decoded : DecodesTo records.ProposeRunCompletionAck propose_run_completion_ack_of (pos 0) message (Ok whole)
  pub id : number ≡ whole.completion_id

-- or it is no acknowledgement
abbrev pub TellsOutcome : RawMessage → Result ℕ EntryError → Type 0
TellsOutcome message (Ok number) = TellsRun message number
TellsOutcome message (Err (Decoding error)) = DecodesTo {R = ProposeRunCompletionAckMessage} records.ProposeRunCompletionAck propose_run_completion_ack_of (pos 0) message (Err error) × (error ≢ unread.OutOfMemory)
TellsOutcome message (Err OutOfMemory) = Unit {0}
TellsOutcome message (Err _) = ⊥

-- The outcome that was kept for a completion waits in line, as one does of which a notification comes; or memory was refused for that.
-- Exactly where none was kept, none is known.
abbrev pub ComesOutcome : ℕ → (kept : Option NonEmptyValue) → (old : AsyncResults) → Result (Unit {0}) EntryError → (new : AsyncResults) → Type 0
ComesOutcome number (Some value) old (Ok done) new = new ≡ with_queued (completion number (result_of_value value)) old
ComesOutcome number (Some value) old (Err OutOfMemory) new = new ≡ old
ComesOutcome number None old (Err (UnknownRun error)) new = (error.completion_id ≡ number) × (new ≡ old)
ComesOutcome number kept old _ new = ⊥

-- it is kept no longer, in line or lost for want of memory
pub record ReadsOutcome (number : ℕ) (runs : Runs) (old : AsyncResults) (result : Result (Unit {0}) EntryError) (runs' : Runs) (new : AsyncResults) : Type 0 where
  pub comes : ComesOutcome number (outcome_at runs.cached number) old result new
  pub left : runs' ≡ acknowledged number runs
  -- so the bodies of runs are those behind the acknowledgement
  pub bodies : Acknowledges number (outcome_at runs.cached number) runs runs'

-- what was told is taken, or is no acknowledgement
abbrev pub TakesTold : Result ℕ EntryError → (runs : Runs) → (old : AsyncResults) → Result (Unit {0}) EntryError → (runs' : Runs) → (new : AsyncResults) → Type 0
TakesTold (Ok number) runs old result runs' new = ReadsOutcome number runs old result runs' new
TakesTold (Err error) runs old result runs' new = (result ≡ Err error) × (runs' ≡ runs) × (new ≡ old)

-- while commands are made it is taken, and what has come changes alone
pub record TakesAcknowledgement (message : RawMessage) (runs : Runs) (old : Active) (result : Result (Unit {0}) EntryError) (runs' : Runs) (new : Active) : Type 0 where
  pub told : Result ℕ EntryError
  pub tells : TellsOutcome message told
  pub takes : TakesTold told runs (results_of old.results) result runs' (results_of new.results)
  pub others : new ≡ record old { results = new.results }

-- An acknowledgement of a run's outcome, which comes while commands are made alone; behind the end it is ignored.
abbrev pub ComesAcknowledgement : RawMessage → Stage → (runs : Runs) → (old : Active) → Result (Unit {0}) EntryError → (runs' : Runs) → (new : Active) → Type 0
ComesAcknowledgement message stages.Processing runs old result runs' new = TakesAcknowledgement message runs old result runs' new
ComesAcknowledgement message stages.Before runs old result runs' new = (result ≡ Err (Unexpected incoming.RunAcknowledgement)) × (runs' ≡ runs) × (new ≡ old)
ComesAcknowledgement message stages.Behind runs old result runs' new = (result ≡ Ok tt) × (runs' ≡ runs) × (new ≡ old)
