-- The machine of an attempt, and what its calls come to, as the laws name them.
pub use Rattle.vm_attempt.specs.MachineInput.{IsFed, IsNew, BeginsAs, is_waiting, input_closed, ClosesWhere, ClosesInput, HasFailed, has_failed, TellsReady, with_input}
pub use Rattle.vm_attempt.specs.Machine.{CoreVM}
pub use Rattle.vm_attempt.specs.Outcomes.outcomes
pub use Rattle.vm_attempt.specs.Outcomes.{IsDriven, Fails, Cause, ByFault, NoNumber, TooLong, TooDeep, NoReplay, NoMemory, HasPut, requests_passed_on, FailsWhen, Answers, Waits, Executes, Suspends, Ends, Comes, CallOutcome}
pub use Rattle.vm_calls.specs.Active.{Sees, RequestFits, are_any, writes_frames}
pub use Rattle.vm_calls.specs.declared.active.Active.{Active}
pub use Rattle.vm_context.specs.Output.{Written, with_frame}
pub use Rattle.vm_start.specs.FailureReport.{FailsNow, FailsAs, TellsFailureCause, TellsError, IsCopy, IsErrorTooLong, WritesError, out_of_memory}
pub use Rattle.vm_start.specs.Failure.{behavior_number, told_delay, told_error}
pub use Rattle.vm_start.specs.declared.phase.Phase.TheVariants as phases
pub use Rattle.vm_start.specs.declared.phase.Phase.{Phase}
pub use Rattle.vm_machine.specs.Calls.{checks_off}
pub use Rattle.vm_machine.specs.declared.machine_state.MachineState.{MachineState}
