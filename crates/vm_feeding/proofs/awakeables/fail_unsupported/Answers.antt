use Rattle.std.proofs.Common.{Ok, ap, subst, ◌∙◌, ℕ, List}
use Rattle.protocol_errors.specs.Code.{unsupported_feature}
use Rattle.protocol_errors.specs.Error.{plain_error}
use Rattle.protocol_errors.specs.declared.error.Error.{Error}
use Rattle.vm_machine.specs.MachineFailure.{MachineFails}
use Rattle.vm_feeding.proofs.awakeables.fail_unsupported.Goals as goal

pub returns : goal.returns
returns c =
    subst (λ (error : Error). MachineFails (Ok error) c.args.vm.now c.fail.result c.fail.new.self)
    (c.new.ensures ∙ ap (λ (text : List ℕ). plain_error unsupported_feature text) c.from_static.ensures) c.fail.ensures
