use Rattle.std.proofs.Common.{[], None, subst}
use Rattle.journal_model.specs.Notification.{Text}
use Rattle.protocol_types.specs.declared.message_type.MessageType.TheVariants.{InputCommand}
use Rattle.vm_machine.specs.CallAdmission.{IsElsewhere}
use Rattle.vm_machine.proofs.Admitted.{steps_made, steps_elsewhere, steps_stopped}
use Rattle.vm_feeding.specs.InputAnswer.{ReadsInputs}
use Rattle.vm_feeding.proofs.reading.sys_input.Goals as goal

pub returns-in-Admitted : goal.returns-in-Admitted
returns-in-Admitted c =
    steps_made ReadsInputs (IsElsewhere 0 InputCommand []) None c.args.vm.now c.admit.new.self c.make.result c.make.new.vm c.in-Admitted.ensures c.make.ensures

pub returns-in-Elsewhere : goal.returns-in-Elsewhere
returns-in-Elsewhere c =
    steps_elsewhere ReadsInputs (IsElsewhere 0 InputCommand []) None c.args.vm.now c.admit.new.self c.fail_elsewhere.result c.fail_elsewhere.new.self c.in-Elsewhere.ensures
    (subst (λ (name : Text). IsElsewhere 0 InputCommand name c.admit.new.self c.fail_elsewhere.result c.fail_elsewhere.new.self) c.new.ensures c.fail_elsewhere.ensures)

pub returns-in-Stopped : goal.returns-in-Stopped
returns-in-Stopped c =
    steps_stopped ReadsInputs (IsElsewhere 0 InputCommand []) None c.args.vm.now c.admit.new.self c.in-Stopped.error c.in-Stopped.ensures
