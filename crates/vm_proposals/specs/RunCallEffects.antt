-- What a call of a run does to a machine in any phase.
use Rattle.std.specs.Prelude.{◌++◌, [], Result}
use Rattle.journal_model.specs.Notification.{Text}
use Rattle.journal_model.specs.declared.call.Answer.{Answer}
use Rattle.journal_model.specs.declared.call.Call.{Call}
use Rattle.attempt_model.specs.Machine.{Machine, next_slot}
use Rattle.body_laws.specs.Bodies.{Executor, bodies_left}
use Rattle.protocol_differences.specs.Promises.{run_command_difference}
use Rattle.protocol_errors.specs.declared.error.Error.{Error}
use Rattle.protocol_types.specs.declared.message_type.MessageType.TheVariants.{RunCommand}
use Rattle.vm_machine.specs.Calls.{Calls}
use Rattle.vm_machine.specs.declared.machine_state.MachineState.{MachineState}
use Rattle.vm_refusals.specs.declared.runs.RunHandle.{RunHandle}
use Rattle.vm_runs.specs.KeptBodies.{IsNew, KeepsBodies}
use Rattle.vm_runs.specs.Runs.{Runs}
use Rattle.vm_proposals.specs.RunRegistration.{KeepsRun}

-- The call is made as each is that puts one command, over what is kept of runs behind it. So where memory is refused for that, nothing of
-- the call is done but that its command is counted.
pub record CallsRun (name : Text) (old : MachineState) (result : Result RunHandle Error) (new : MachineState) : Type 0 where
  pub calls : Calls run_command_difference (Call.Run name) (λ run. Answer.Handle run.handle) [] RunCommand name (record old { runs = new.runs }) result new
  pub keeps : KeepsRun name old.active old.runs result new.runs

-- The bodies of the runs behind a call that was answered, whichever they were before: one more is left to be executed where the call is a
-- run whose outcome has not come.
abbrev pub KeepsBodiesOf : Machine → Call → (old new : Runs) → Type 0
KeepsBodiesOf m call old new = (e : Executor) → KeepsBodies old e → IsNew (next_slot m) e → KeepsBodies new (record e { left = e.left ++ bodies_left m call })
