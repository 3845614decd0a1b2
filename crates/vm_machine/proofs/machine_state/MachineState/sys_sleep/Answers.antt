use Rattle.std.proofs.Common.{refl}
use Rattle.journal_model.specs.declared.call.Answer.{Answer}
use Rattle.journal_model.specs.declared.call.Call.{Call}
use Rattle.protocol_differences.specs.Control.{sleep_command_difference}
use Rattle.protocol_types.specs.declared.message_type.MessageType.TheVariants.{SleepCommand}
use Rattle.vm_start.specs.Phases.{kept_error}
use Rattle.vm_machine.proofs.Admitted.{admitted_free, calls_made, calls_elsewhere, calls_stopped}
use Rattle.vm_machine.proofs.Moments.{refuses_sleep, times_sleep}
use Rattle.vm_machine.proofs.machine_state.MachineState.sys_sleep.Goals as goal

pub returns-in-Admitted : goal.returns-in-Admitted
returns-in-Admitted c =
    let told = c.moment_of-time.result in
    let free = admitted_free (kept_error c.args.self.now.phase) told.1 c.args.self.now c.admit.new.self c.in-Admitted.ensures in
    let timed = times_sleep c.args.self.now.version c.args.wake_up _ told c.moment_of-time.ensures free.0 in
    calls_made sleep_command_difference (Call.Sleep c.args.name c.args.wake_up c.args.now) (λ handle. Answer.Handle handle) _ SleepCommand c.args.name told.1 c.args.self.now c.admit.new.self
    c.make_sleep.result c.make_sleep.new.self (refuses_sleep c.args.self.now.version c.args.name c.args.wake_up c.args.now _ told c.moment_of-time.ensures) c.in-Admitted.ensures
    (c.make_sleep.ensures c.args.wake_up c.args.now timed.1 timed.0)

pub returns-in-Elsewhere : goal.returns-in-Elsewhere
returns-in-Elsewhere c =
    let told = c.moment_of-time.result in
    calls_elsewhere sleep_command_difference (Call.Sleep c.args.name c.args.wake_up c.args.now) (λ handle. Answer.Handle handle) _ SleepCommand c.args.name told.1 c.args.self.now c.admit.new.self
    c.fail_elsewhere.result c.fail_elsewhere.new.self c.args.name refl (refuses_sleep c.args.self.now.version c.args.name c.args.wake_up c.args.now _ told c.moment_of-time.ensures) c.in-Elsewhere.ensures c.fail_elsewhere.ensures

pub returns-in-Stopped : goal.returns-in-Stopped
returns-in-Stopped c =
    let told = c.moment_of-time.result in
    calls_stopped sleep_command_difference (Call.Sleep c.args.name c.args.wake_up c.args.now) (λ handle. Answer.Handle handle) _ SleepCommand c.args.name told.1 c.args.self.now c.admit.new.self
    c.in-Stopped.error (refuses_sleep c.args.self.now.version c.args.name c.args.wake_up c.args.now _ told c.moment_of-time.ensures) c.in-Stopped.ensures
