use Rattle.std.proofs.Common.{refl}
use Rattle.journal_model.specs.Run.{name_or_empty}
use Rattle.journal_model.specs.declared.call.Call.{Call}
use Rattle.vm_context.specs.Eager.{is_known}
use Rattle.vm_progress.specs.StateReadEffects.{value_read}
use Rattle.vm_outcomes.proofs.Reading.{read_carried}
use Rattle.vm_core.proofs.state.state_get.Goals as goal

pub returns : goal.returns
returns c =
    read_carried value_read (Call.StateGet c.args.key c.args.name c.args.options) (λ active. is_known active.state c.args.key) (name_or_empty c.args.name) c.args.vm.now.state c.sys_state_get.result c.sys_state_get.new.self.state c.handled.result
    c.handled.ensures refl (λ version. refl) (λ n signal. refl) (λ given m. refl) refl c.sys_state_get.ensures
