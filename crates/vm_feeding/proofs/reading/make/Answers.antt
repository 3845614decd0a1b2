use Rattle.std.proofs.Common.{Ok, Err, refl, subst}
use Rattle.journal_model.specs.Notification.{Text}
use Rattle.protocol_types.specs.declared.message_type.MessageType.TheVariants.{InputCommand}
use Rattle.vm_machine.specs.CallAdmission.{IsElsewhere}
use Rattle.vm_feeding.specs.declared.reading.Reading.TheVariants.{Given, Fails, Elsewhere}
use Rattle.vm_feeding.proofs.Inputs.{made}
use Rattle.vm_feeding.proofs.reading.make.Goals as goal

pub returns-in-Given : goal.returns-in-Given
returns-in-Given c =
    made c.args.vm.now c.read.new.active (Given c.in-Given.input) (Ok c.in-Given.input) _ c.in-Given.ensures (refl, refl)

pub returns-in-Fails : goal.returns-in-Fails
returns-in-Fails c =
    made c.args.vm.now c.read.new.active (Fails c.in-Fails.cause) (Err c.fail.result) c.fail.new.self c.in-Fails.ensures c.fail.ensures

pub returns-in-Elsewhere : goal.returns-in-Elsewhere
returns-in-Elsewhere c =
    let between = record c.args.vm.now { active = c.read.new.active } in
    made c.args.vm.now c.read.new.active Elsewhere (Err c.fail_elsewhere.result) c.fail_elsewhere.new.self c.in-Elsewhere.ensures
    (subst (λ (name : Text). IsElsewhere 0 InputCommand name between c.fail_elsewhere.result c.fail_elsewhere.new.self) c.new.ensures c.fail_elsewhere.ensures)
