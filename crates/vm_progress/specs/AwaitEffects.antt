-- What an await does to a machine in any phase.
use Rattle.std.specs.Prelude.{◌≡◌, ℕ, Bool, false, codes, [], Option, Some, None, Result, Ok, Err}
use Rattle.journal_model.specs.AwaitTree.{AwaitTree}
use Rattle.journal_model.specs.declared.call.Call.{Call}
use Rattle.vm_refusals.specs.declared.refusal_error.RefusalError.{RefusalError}
use Rattle.protocol_errors.specs.declared.error.Error.{Error}
use Rattle.protocol_calls.specs.declared.send_signal_command.SendSignalCommandMessage.{SendSignalCommandMessage}
use Rattle.protocol_differences.specs.Invocations.{send_signal_command_difference}
use Rattle.vm_calls.specs.declared.call_error.CallError.TheVariants as calls
use Rattle.vm_calls.specs.declared.put_error.PutError.{PutError}
use Rattle.vm_types.specs.Reads.{EphemeralReads, least_of}
use Rattle.vm_start.specs.declared.phase.Phase.{Phase}
use Rattle.vm_start.specs.declared.phase.Phase.TheVariants.{Active}
use Rattle.vm_machine.specs.Steps.{IsUnexpected, Steps}
use Rattle.vm_machine.specs.declared.machine_state.MachineState.{MachineState}
use Rattle.vm_types.specs.declared.answers.AwaitResponse.{AwaitResponse}
use Rattle.vm_types.specs.declared.answers.AwaitResponse.TheVariants as responses
use Rattle.vm_types.specs.declared.handles.EphemeralCompletionId.{EphemeralCompletionId}
use Rattle.vm_machine.specs.Calls.{checks_off, IsRefusalOf}
use Rattle.vm_machine.specs.MachineFailure.{MachineFails}
use Rattle.vm_machine.specs.Causes.{child_not_id_error}
use Rattle.vm_machine.specs.CallAnswers.{Settles}
use Rattle.vm_waiting.specs.AwaitSteps.{AwaitComesTo, AwaitsSeen}
use Rattle.vm_waiting.specs.declared.awaiting.Awaited.{Awaited}
use Rattle.vm_waiting.specs.declared.awaiting.Awaited.TheVariants.{AnyCompleted, Cancelled, Asleep}
use Rattle.vm_waiting.specs.declared.awaiting.AwaitError.{AwaitError}
use Rattle.vm_waiting.specs.declared.awaiting.AwaitError.TheVariants.{UncompletedInReplay, ChildNotId, Put, OutOfMemory}
use Rattle.vm_progress.specs.SleepingAwaits.{LacksMemoryToAwait, Sleeps}
use Rattle.vm_progress.specs.UncompletedAwaits.{IsUncompleted}

-- behind the journal, and nowhere else, the least read whose answer can be taken is told before anything else
abbrev pub ready_read : Phase → (is_replaying : Bool) → EphemeralReads → Option EphemeralCompletionId
ready_read Active false reads = least_of reads
ready_read phase is_replaying reads = None

-- the command that passes a cancellation on is neither matched nor written: the machine fails with why it is not
abbrev pub FailsToCancel : PutError SendSignalCommandMessage → (old : MachineState) → Result AwaitResponse Error → (new : MachineState) → Type 0
FailsToCancel error old result new = Settles send_signal_command_difference (Err (calls.Put error)) old result new

-- what is answered of what an await has come to
abbrev pub GoesOnAs : Result Awaited AwaitError → (old : MachineState) → Result AwaitResponse Error → (new : MachineState) → Type 0
GoesOnAs (Ok AnyCompleted) old (Ok response) new = (response ≡ responses.AnyCompleted) × (new ≡ old)
GoesOnAs (Ok AnyCompleted) old (Err answer) new = ⊥
GoesOnAs (Ok Cancelled) old (Ok response) new = (response ≡ responses.CancelSignalReceived) × (new ≡ old)
GoesOnAs (Ok Cancelled) old (Err answer) new = ⊥
GoesOnAs (Ok (Asleep waits)) old result new = Sleeps waits old result new
GoesOnAs (Err (UncompletedInReplay waits)) old (Ok response) new = ⊥
GoesOnAs (Err (UncompletedInReplay waits)) old (Err answer) new = IsUncompleted waits old answer new
GoesOnAs (Err ChildNotId) old (Ok response) new = ⊥
GoesOnAs (Err ChildNotId) old (Err answer) new = MachineFails (Ok child_not_id_error) old answer new
GoesOnAs (Err (Put error)) old result new = FailsToCancel error old result new
GoesOnAs (Err OutOfMemory) old (Ok response) new = ⊥
GoesOnAs (Err OutOfMemory) old (Err answer) new = LacksMemoryToAwait old answer new

-- In each attempt the await comes to what its tree is resolved to, over what has come, and to what a cancellation that waits does; where the
-- abstract machine was seen before, to what that machine's comes to; and goes on from there.
pub record IsAwaited (tree : AwaitTree ℕ) (old : MachineState) (result : Result AwaitResponse Error) (new : MachineState) : Type 0 where
  pub awaited : Result Awaited AwaitError
  pub between : MachineState
  pub others : between ≡ record old { active = between.active }
  pub held : AwaitComesTo old.options.implicit_cancellation (checks_off old.options.non_determinism_checks) tree old.active awaited between.active
  pub awaits : AwaitsSeen old.options.implicit_cancellation (checks_off old.options.non_determinism_checks) tree old.active awaited between.active
  pub goes_on : GoesOnAs awaited between result new

-- One that has failed answers that again; then an await that is refused fails; then it is awaited, or there is no await in this phase.
pub record AwaitsUnread (tree : AwaitTree ℕ) (old : MachineState) (result : Result AwaitResponse Error) (new : MachineState) : Type 0 where
  pub refusal : Option RefusalError
  pub refuses : IsRefusalOf old.version (Call.Await tree) [] refusal
  pub steps : Steps (IsAwaited tree) (IsUnexpected (codes "await")) refusal old result new

abbrev pub DoesAwaitWhere : (ready : Option EphemeralCompletionId) → AwaitTree ℕ → (old : MachineState) → Result AwaitResponse Error → (new : MachineState) → Type 0
DoesAwaitWhere (Some id) tree old (Ok response) new = (response ≡ responses.EphemeralNotificationReady id) × (new ≡ old)
DoesAwaitWhere (Some id) tree old (Err answer) new = ⊥
DoesAwaitWhere None tree old result new = AwaitsUnread tree old result new

-- a read's answer comes first
abbrev pub DoesAwait : AwaitTree ℕ → (old : MachineState) → Result AwaitResponse Error → (new : MachineState) → Type 0
DoesAwait tree old result new = DoesAwaitWhere (ready_read old.phase old.active.is_replaying old.reads) tree old result new
