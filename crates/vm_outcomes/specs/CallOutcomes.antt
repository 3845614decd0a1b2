-- What a handler's call comes to, in the words of the abstract machine of its invocation.
use Rattle.std.specs.Prelude.{◌≡◌, ◌⊎◌, ℕ, Bool, true, false, not, ◌&&◌, List, [], ◌++◌, codes, Option, Some, None, Result, Ok}
use Rattle.std.specs.List.{AllByRecursion}
use Rattle.std.specs.declared.alloc.AllocError.{AllocError}
use Rattle.journal_model.specs.Request.{Request}
use Rattle.journal_model.specs.Run.{Invocation}
use Rattle.journal_model.specs.Spelling.{frame_bytes}
use Rattle.journal_model.specs.declared.call.Answer.{Answer}
use Rattle.journal_model.specs.declared.call.Call.{Call}
use Rattle.attempt_model.specs.Machine.{Machine, Answered, Finished}
use Rattle.protocol_errors.specs.declared.error.Error.{Error}
use Rattle.protocol_types.specs.declared.message_type.MessageType.TheVariants as messages
use Rattle.vm_calls.specs.Active.{Sees, RequestFits, writes_frames}
use Rattle.vm_calls.specs.declared.active.Active.{Active}
use Rattle.vm_context.specs.Output.{with_frame}
use Rattle.vm_start.specs.FailureReport.{FailsNow, IsCopy}
use Rattle.vm_start.specs.Phases.{closed_error}
use Rattle.vm_start.specs.declared.phase.Phase.{Phase}
use Rattle.vm_start.specs.declared.phase.Phase.TheVariants as phases
use Rattle.vm_progress.specs.AwaitedRuns.{LooksForRun, executes_any, is_executing_for, run_for}
use Rattle.vm_waiting.specs.SuspensionFrames.{is_suspension_too_deep, tells_awaiting, TellsIf, IsSuspended}
use Rattle.vm_waiting.specs.WaitsFor.{awaited_ids, waits_for_any, waits_as}
use Rattle.vm_waiting.specs.declared.waits_for.WaitsFor.{WaitsFor}
use Rattle.vm_machine.specs.declared.machine_state.MachineState.{MachineState}
use Rattle.vm_outcomes.specs.Causes.{NumbersLeft, HasCause}
use Rattle.vm_outcomes.specs.DrivenMachine.{IsDriven, reply_of}
use Rattle.vm_outcomes.specs.Runs.{KeepsBodiesOf, runs_after}
use Rattle.vm_outcomes.specs.PartialCalls.{HasPut}
use Rattle.vm_outcomes.specs.declared.outcome.CallOutcome.{CallOutcome}
use Rattle.vm_outcomes.specs.declared.outcome.CallOutcome.TheVariants as outcomes

-- whether an await that waits tells of it: not where no more input can come, as it waits then for the outcome of a run alone
abbrev pub tells_waiting : MachineState → WaitsFor → Bool
tells_waiting vm waits = not vm.is_input_closed && tells_awaiting vm.version vm.options.awaiting_on_policy (executes_any vm.runs) (waits_for_any waits)

module _ (given : Invocation) (m : Machine) (call : Call) (old : MachineState) where
  -- It is answered as the abstract machine answers it, which the machine stands to afterwards; written are exactly the frames of the
  -- requests by which that has written more.
  pub record Answers (answer : Answer) (new : MachineState) : Type 0 where
    pub machine : Machine
    pub replies : reply_of old given m call ≡ Answered answer machine
    pub driven : IsDriven given machine new
    pub more : List Request
    pub written : machine.written ≡ m.written ++ more
    pub frames : new.active.output ≡ writes_frames more old.active.output
    -- each fits its frame, and the numbers that the call takes were left
    pub fit : AllByRecursion RequestFits more
    pub numbers : NumbersLeft m call
    pub kept : new.runs ≡ runs_after m call old.active.journal old.runs
    pub runs : KeepsBodiesOf m call old.runs new.runs
    pub others : new ≡ record old { active = new.active; runs = new.runs }

  -- It is an await for which nothing is left to look at, and no run of it is to be executed. More input can come, or one of its runs is
  -- being executed. While more can come, what it waits for is told, where that is to be told; no request is written. It waits for what is
  -- left of its tree, or, where a cancellation waits, for a child's invocation id.
  pub record Waits (new : MachineState) : Type 0 where
    pub waits : WaitsFor
    pub is_open : (old.is_input_closed ≡ false) ⊎ (is_executing_for waits old.runs ≡ true)
    pub none : run_for waits old.runs ≡ None
    pub machine : Machine
    pub replies : reply_of old given m call ≡ waits_as waits machine
    pub driven : IsDriven given machine new
    pub written : machine.written ≡ m.written
    -- before it is told
    pub resolved : Active
    pub unwritten : resolved.output ≡ old.active.output
    pub tells : TellsIf (tells_waiting old waits) (awaited_ids resolved waits) resolved (Ok tt) new.active
    pub others : new ≡ record old { active = new.active }

  -- It is such an await, of which a run is to be executed: that of the least handle is, and nothing is written.
  pub record Executes (handle : ℕ) (new : MachineState) : Type 0 where
    pub waits : WaitsFor
    pub machine : Machine
    pub replies : reply_of old given m call ≡ waits_as waits machine
    pub driven : IsDriven given machine new
    pub written : machine.written ≡ m.written
    pub unwritten : new.active.output ≡ old.active.output
    pub looks : LooksForRun waits old.runs (Some handle) new.runs
    pub others : new ≡ record old { active = new.active; runs = new.runs }

  -- It is such an await, of which no run is to be executed or is being executed, and no more input can come: what it waits for is written as
  -- the suspension, behind which nothing is.
  pub record Suspends (new : MachineState) : Type 0 where
    pub is_closed : old.is_input_closed ≡ true
    pub waits : WaitsFor
    pub none : run_for waits old.runs ≡ None
    pub idle : is_executing_for waits old.runs ≡ false
    pub machine : Machine
    pub replies : reply_of old given m call ≡ waits_as waits machine
    pub written : machine.written ≡ m.written
    -- before it is written
    pub resolved : Active
    pub sees : Sees given resolved machine
    pub unwritten : resolved.output ≡ old.active.output
    pub shallow : is_suspension_too_deep old.version (awaited_ids resolved waits) ≡ false
    pub suspended : IsSuspended (awaited_ids resolved waits) resolved new.active
    pub others : new ≡ record old { phase = phases.Closed; active = new.active }

  -- It is the end, behind all that was recorded: its frame is written, behind which nothing is.
  pub record Ends (new : MachineState) : Type 0 where
    pub replies : reply_of old given m call ≡ Finished m
    pub output : new.active.output ≡ record (with_frame (frame_bytes messages.End []) old.active.output) { is_closed = true }
    pub others : new ≡ record old { phase = phases.Closed; active = record old.active { output = new.active.output } }

  -- The machine fails, by a cause that there is. Of the requests by which an await passes a cancellation on the first may have been put:
  -- exactly the frames of those are written by which it has written more. Behind them is the one frame of an error, or none, and nothing
  -- more. A run that was called may be kept.
  pub record Fails (answer : Error) (new : MachineState) : Type 0 where
    pub told : Result Error AllocError
    pub far : HasPut given m call old
    pub has_cause : HasCause given m call old far new.active told
    pub fails : FailsNow old.version old.options.journal_mismatch_retry_behavior told (writes_frames far.more old.active.output) answer new.phase new.active.output
    pub runs : (new.runs ≡ old.runs) ⊎ (new.runs ≡ runs_after m call old.active.journal old.runs)
    pub others : new ≡ record old { phase = new.phase; active = new.active; runs = new.runs }

  abbrev pub Comes : CallOutcome → (new : MachineState) → Type 0
  Comes (outcomes.Answered answer) new = Answers answer new
  Comes outcomes.Waiting new = Waits new
  Comes (outcomes.Executes handle) new = Executes handle new
  Comes outcomes.Suspended new = Suspends new
  Comes outcomes.Ended new = Ends new
  Comes (outcomes.Failed answer) new = Fails answer new

-- What a call comes to of a machine that stands to an abstract machine, whichever that is.
abbrev pub CarriesOut : Call → (old : MachineState) → CallOutcome → (new : MachineState) → Type 0
CarriesOut call old outcome new = (given : Invocation) (m : Machine) → IsDriven given m old → Comes given m call old outcome new

-- A machine that has failed answers what it has failed with, and stays as it is.
abbrev pub StaysFailed : (kept : Option Error) → (old : MachineState) → CallOutcome → (new : MachineState) → Type 0
StaysFailed None old outcome new = Unit {0}
StaysFailed (Some kept) old (outcomes.Failed answer) new = IsCopy kept answer × (new ≡ old)
StaysFailed (Some kept) old _ new = ⊥

-- One that has ended or was suspended answers that it is closed, whichever call it is, and stays as it is.
abbrev pub StaysClosed : Phase → (old : MachineState) → CallOutcome → (new : MachineState) → Type 0
StaysClosed phases.Closed old (outcomes.Failed answer) new = IsCopy (closed_error (codes "IsReadyToExecute")) answer × (new ≡ old)
StaysClosed phases.Closed old _ new = ⊥
StaysClosed _ old outcome new = Unit {0}
