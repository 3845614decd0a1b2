use Rattle.std.proofs.Common.{None, codes}
use Rattle.vm_machine.specs.Steps.{IsUnexpected}
use Rattle.vm_machine.specs.declared.machine_state.MachineState.{MachineState}
use Rattle.vm_machine.proofs.Admitted.{steps_made, steps_elsewhere, steps_stopped}
use Rattle.vm_feeding.specs.EphemeralStateReads.{TakesWhere}
use Rattle.vm_feeding.proofs.ephemeral_taking.take_ephemeral_notification.Goals as goal

pub returns-in-Admitted : goal.returns-in-Admitted
returns-in-Admitted c =
    steps_made (λ (old : MachineState). TakesWhere old.active.is_replaying c.args.id old) (IsUnexpected (codes "TakeEphemeralNotification")) None c.args.vm.now c.admit.new.self
    c.take.result c.take.new.vm c.in-Admitted.ensures c.take.ensures

pub returns-in-Elsewhere : goal.returns-in-Elsewhere
returns-in-Elsewhere c =
    steps_elsewhere (λ (old : MachineState). TakesWhere old.active.is_replaying c.args.id old) (IsUnexpected (codes "TakeEphemeralNotification")) None c.args.vm.now c.admit.new.self
    c.fail_unexpected.result c.fail_unexpected.new.self c.in-Elsewhere.ensures c.fail_unexpected.ensures

pub returns-in-Stopped : goal.returns-in-Stopped
returns-in-Stopped c =
    steps_stopped (λ (old : MachineState). TakesWhere old.active.is_replaying c.args.id old) (IsUnexpected (codes "TakeEphemeralNotification")) None c.args.vm.now c.admit.new.self
    c.in-Stopped.error c.in-Stopped.ensures
