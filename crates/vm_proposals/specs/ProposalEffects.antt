-- What becomes of the end of a run's body, in any phase of the machine.
use Rattle.std.specs.Prelude.{◌≡◌, ◌<◌, ◌≤◌, ◌⊎◌, ◌*◌, ◌^◌, ℕ, Bool, true, false, not, length, Option, Some, None, option_and_then, Result, Ok, Err, IfOk}
use Rattle.std.specs.declared.alloc.AllocError.{AllocError}
use Rattle.journal_model.specs.declared.value.NonEmptyValue.{NonEmptyValue}
use Rattle.attempt_model.specs.Results.{Slots, slot_of}
use Rattle.protocol_controls.specs.ProposeRunCompletion.{propose_run_completion_parts}
use Rattle.protocol_controls.specs.declared.propose_run_completion.ProposeRunCompletionMessage.{ProposeRunCompletionMessage}
use Rattle.protocol_errors.specs.declared.metadata.CommandMetadata.{CommandMetadata}
use Rattle.protocol_errors.specs.Code.{internal}
use Rattle.protocol_errors.specs.declared.error.Error.{Error}
use Rattle.protocol_messages.specs.ProposedValues.{proposed_record}
use Rattle.protocol_messages.specs.Encodings.{record_message}
use Rattle.protocol_records.specs.declared.start.StartMessage.{StartMessage}
use Rattle.protocol_stream.specs.ErrorText.{too_long_text}
use Rattle.protocol_stream.specs.Frame.{spelled}
use Rattle.protocol_stream.specs.declared.decoder.RawMessage.{RawMessage}
use Rattle.protocol_stream.specs.declared.encoder.EncodingError.{EncodingError}
use Rattle.protocol_stream.specs.declared.encoder.EncodingError.TheVariants.{PayloadTooLong, OutOfMemory}
use Rattle.protocol_types.specs.Version.{version_number}
use Rattle.protocol_types.specs.declared.feature.Feature.{Feature}
use Rattle.protocol_types.specs.declared.message_type.MessageType.TheVariants as messages
use Rattle.protocol_types.specs.declared.version.Version.{Version}
use Rattle.vm_awaits.specs.Children.{completion_in}
use Rattle.vm_awaits.specs.Views.{slots_of}
use Rattle.vm_context.specs.Output.{Written, with_frame}
use Rattle.vm_machine.specs.CallAdmission.{IsAbout}
use Rattle.vm_machine.specs.MachineFailure.{MachineFails}
use Rattle.vm_machine.specs.Causes.{TellsPlainError}
use Rattle.vm_machine.specs.declared.machine_state.MachineState.{MachineState}
use Rattle.vm_refusals.specs.declared.retries.RetryPolicy.{RetryPolicy}
use Rattle.vm_refusals.specs.declared.runs.RunExitResult.{RunExitResult}
use Rattle.vm_refusals.specs.BodyExits.{as_ending, ending, feature_lacked, makes_failure}
use Rattle.vm_refusals.specs.RetryDecisions.{Tried, inherits}
use Rattle.vm_refusals.specs.declared.ending.BodyEnd.{BodyEnd}
use Rattle.vm_runs.specs.KeptBodies.{copy_of, ProposesOutcome}
use Rattle.vm_runs.specs.Runs.{Table, after_proposal, run_at}
use Rattle.vm_runs.specs.declared.run.Run.{Run}
use Rattle.vm_start.specs.FailureReport.{IsCopy}
use Rattle.vm_start.specs.Phases.{kept_error}
use Rattle.vm_start.specs.declared.phase.Phase.{Phase}
use Rattle.vm_start.specs.declared.phase.Phase.TheVariants as phases
use Rattle.vm_proposals.specs.RunFailureCauses.{LacksMemoryToPropose, IsUnsupported, unknown_run_error, run_told, with_delay, about, pausing}

-- ---- what was tried before

-- what the start has told of attempts that have failed since the last entry: how many, and for how many milliseconds
abbrev pub tried_at_start : Option StartMessage → Tried
tried_at_start None = record { count = 0; nanos = 0 }
tried_at_start (Some start) = record { count = start.retry_count_since_last_stored_entry; nanos = start.duration_since_last_stored_entry * 1000000 }

-- a run inherits that exactly where no command was written in this attempt: what was put in the output says so
abbrev pub tried_before : MachineState → Tried
tried_before vm = inherits vm.active.output.has_commands (tried_at_start vm.start)

-- ---- the frame

abbrev pub proposal : ℕ → NonEmptyValue → ProposeRunCompletionMessage
proposal completion value = record { result_completion_id = completion; result = Some (proposed_record value) }

-- its header asks for an acknowledgement from the version on that has them
abbrev pub proposal_message : Version → ProposeRunCompletionMessage → RawMessage
proposal_message version one = record_message messages.ProposeRunCompletion version (propose_run_completion_parts one)

-- The frame of a proposal is written, whole or not at all; behind the end nothing is.
abbrev pub WritesProposal : ProposeRunCompletionMessage → (old : Written) → Result (Unit {0}) EncodingError → (new : Written) → Type 0
WritesProposal one old (Ok done) new = (old.is_closed ≡ false → length (proposal_message old.version one).payload < 2 ^ 32) × (new ≡ with_frame (spelled (proposal_message old.version one)) old)
WritesProposal one old (Err PayloadTooLong) new = (old.is_closed ≡ false) × (2 ^ 32 ≤ length (proposal_message old.version one).payload) × (new ≡ old)
WritesProposal one old (Err OutOfMemory) new = new ≡ old

-- why it is not: the error of a frame that is too long is about the run
abbrev pub UnwrittenCauses : CommandMetadata → EncodingError → Result Error AllocError → Type 0
UnwrittenCauses command PayloadTooLong cause = IfOk cause (IsAbout command (TellsPlainError internal (Some too_long_text)))
UnwrittenCauses command OutOfMemory (Ok told) = ⊥
UnwrittenCauses command OutOfMemory (Err refused) = Unit {0}

pub record FailsUnwritten (command : CommandMetadata) (error : EncodingError) (old : MachineState) (answer : Error) (new : MachineState) : Type 0 where
  pub cause : Result Error AllocError
  pub causes : UnwrittenCauses command error cause
  pub fails : MachineFails cause old answer new

abbrev pub SettlesProposal : CommandMetadata → (written : Result (Unit {0}) EncodingError) → (old : MachineState) → Result (Unit {0}) Error → (new : MachineState) → Type 0
SettlesProposal command (Ok written) old (Ok done) new = new ≡ old
SettlesProposal command (Err error) old (Err answer) new = FailsUnwritten command error old answer new
SettlesProposal command written old result new = ⊥

-- ---- an outcome

-- the run is let go of, and a copy of its outcome is kept where it is to be acknowledged
abbrev pub let_go : ℕ → NonEmptyValue → MachineState → MachineState
let_go handle value vm = record vm { runs = after_proposal handle (copy_of (version_number vm.version) value) vm.runs }

-- the run is let go of, and then its proposal is written, or is not
pub record LetsGo (handle completion : ℕ) (command : CommandMetadata) (value : NonEmptyValue) (old : MachineState) (result : Result (Unit {0}) Error) (new : MachineState) : Type 0 where
  pub bodies : ProposesOutcome handle (copy_of (version_number old.version) value) (run_at old.runs.table handle) old.runs (let_go handle value old).runs
  pub written : Result (Unit {0}) EncodingError
  pub output : Written
  pub writes : WritesProposal (proposal completion value) old.active.output written output
  pub settles : SettlesProposal command written (record (let_go handle value old) { active = record old.active { output = output } }) result new

-- or memory is refused for the copy, and the machine fails with all as it was
abbrev pub ProposesValue : (handle completion : ℕ) → CommandMetadata → NonEmptyValue → (old : MachineState) → Result (Unit {0}) Error → (new : MachineState) → Type 0
ProposesValue handle completion command value old (Ok done) new = LetsGo handle completion command value old (Ok done) new
ProposesValue handle completion command value old (Err answer) new = LetsGo handle completion command value old (Err answer) new ⊎ LacksMemoryToPropose old answer new

-- ---- the end of a body

-- an outcome is proposed; else the machine fails with the body's own error, about the run
abbrev pub GoesOnAs : (handle completion : ℕ) → CommandMetadata → BodyEnd → (old : MachineState) → Result (Unit {0}) Error → (new : MachineState) → Type 0
GoesOnAs handle completion command (BodyEnd.Outcome value) old result new = ProposesValue handle completion command value old result new
GoesOnAs handle completion command (BodyEnd.Retry error delay) old (Err answer) new = MachineFails (Ok (about command (with_delay delay error))) old answer new
GoesOnAs handle completion command (BodyEnd.Pause error) old (Err answer) new = MachineFails (Ok (about command (pausing error))) old answer new
GoesOnAs handle completion command end old (Ok done) new = ⊥

-- what it comes to is said by the policy, and by what was tried before
pub record EndsAs (handle completion : ℕ) (command : CommandMetadata) (exit : RunExitResult) (policy : RetryPolicy) (old : MachineState) (result : Result (Unit {0}) Error) (new : MachineState) : Type 0 where
  pub end : BodyEnd
  pub ends : as_ending end ≡ ending policy (tried_before old) exit
  pub goes_on : GoesOnAs handle completion command end old result new

-- or memory is refused for the text of a failure that is made of its error
abbrev pub EndsKnown : (handle completion : ℕ) → CommandMetadata → RunExitResult → RetryPolicy → (old : MachineState) → Result (Unit {0}) Error → (new : MachineState) → Type 0
EndsKnown handle completion command exit policy old (Ok done) new = EndsAs handle completion command exit policy old (Ok done) new
EndsKnown handle completion command exit policy old (Err answer) new =
    EndsAs handle completion command exit policy old (Err answer) new ⊎ ((makes_failure policy (tried_before old) exit ≡ true) × LacksMemoryToPropose old answer new)

-- the run of a handle that is open: its outcome was not proposed, nor was one taken, so that the handle stands for its completion
abbrev pub open_run : Slots → Table → ℕ → Option Run
open_run slots table handle = option_and_then (λ completion. run_at table handle) (completion_in (slot_of slots handle))

-- a proposal of a handle of no open run fails the machine; else the run's body has ended, or memory is refused for its name
abbrev pub EndsRun : (handle : ℕ) → Option Run → RunExitResult → RetryPolicy → (old : MachineState) → Result (Unit {0}) Error → (new : MachineState) → Type 0
EndsRun handle None exit policy old (Ok done) new = ⊥
EndsRun handle None exit policy old (Err answer) new = MachineFails (Ok unknown_run_error) old answer new
EndsRun handle (Some run) exit policy old (Ok done) new = EndsKnown handle run.completion (run_told run) exit policy old (Ok done) new
EndsRun handle (Some run) exit policy old (Err answer) new = EndsKnown handle run.completion (run_told run) exit policy old (Err answer) new ⊎ LacksMemoryToPropose old answer new

-- ---- the machine

-- whether commands are made, behind the journal
abbrev pub is_processing : Phase → (is_replaying : Bool) → Bool
is_processing phases.Active is_replaying = not is_replaying
is_processing _ is_replaying = false

abbrev pub ProposesIf : (processing : Bool) → (handle : ℕ) → RunExitResult → RetryPolicy → (old : MachineState) → Result (Unit {0}) Error → (new : MachineState) → Type 0
ProposesIf true handle exit policy old result new = EndsRun handle (open_run (slots_of old.active.results) old.runs.table handle) exit policy old result new
ProposesIf false handle exit policy old result new = (result ≡ Ok tt) × (new ≡ old)

abbrev pub ProposesWhere : (kept : Option Error) → (lacked : Option Feature) → (handle : ℕ) → RunExitResult → RetryPolicy → (old : MachineState) → Result (Unit {0}) Error → (new : MachineState) → Type 0
ProposesWhere (Some kept) lacked handle exit policy old (Ok done) new = ⊥
ProposesWhere (Some kept) lacked handle exit policy old (Err answer) new = (new ≡ old) × IsCopy kept answer
ProposesWhere None (Some feature) handle exit policy old (Ok done) new = ⊥
ProposesWhere None (Some feature) handle exit policy old (Err answer) new = IsUnsupported feature old answer new
ProposesWhere None None handle exit policy old result new = ProposesIf (is_processing old.phase old.active.is_replaying) handle exit policy old result new

-- One that has failed answers that again. Then it is told what the version lacks. Then the body has ended, while commands are made behind
-- the journal; in any other phase nothing is done.
abbrev pub ProposesRun : (handle : ℕ) → RunExitResult → RetryPolicy → (old : MachineState) → Result (Unit {0}) Error → (new : MachineState) → Type 0
ProposesRun handle exit policy old result new = ProposesWhere (kept_error old.phase) (feature_lacked (version_number old.version) policy exit) handle exit policy old result new
