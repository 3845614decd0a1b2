use Rattle.std.proofs.Common.{sym, subst, ◌∙◌}
use Rattle.vm_context.specs.declared.eager_state.EagerGetState.{EagerGetState}
use Rattle.vm_feeding.specs.EphemeralStateReads.{Gets}
use Rattle.vm_feeding.proofs.ReadSteps.{unread}
use Rattle.vm_feeding.proofs.getting.get.Goals as goal

pub returns-in-Ok-Value : goal.returns-in-Ok-Value
returns-in-Ok-Value c =
    subst (λ (known : EagerGetState). Gets known c.args.key c.args.vm.now c.register.result c.register.new.vm) (sym c.in-Ok-Value.field-0-is ∙ c.in-Ok-Value.ensures.told) c.register.ensures

pub returns-in-Ok-Empty : goal.returns-in-Ok-Empty
returns-in-Ok-Empty c =
    subst (λ (known : EagerGetState). Gets known c.args.key c.args.vm.now c.register-in-Ok-Empty.result c.register-in-Ok-Empty.new.vm) (sym c.in-Ok-Empty.field-0-is ∙ c.in-Ok-Empty.ensures.told) c.register-in-Ok-Empty.ensures

pub returns-in-Ok-Unknown : goal.returns-in-Ok-Unknown
returns-in-Ok-Unknown c =
    subst (λ (known : EagerGetState). Gets known c.args.key c.args.vm.now c.get_unknown.result c.get_unknown.new.vm) (sym c.in-Ok-Unknown.field-0-is ∙ c.in-Ok-Unknown.ensures.told) c.get_unknown.ensures

pub returns-in-Err : goal.returns-in-Err
returns-in-Err c = unread _ c.args.key c.args.vm.now c.in-Err.refused c.fail.result c.fail.new.self c.in-Err.ensures.memory c.fail.ensures
