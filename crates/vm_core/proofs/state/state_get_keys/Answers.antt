use Rattle.std.proofs.Common.{refl, not}
use Rattle.journal_model.specs.Run.{name_or_empty}
use Rattle.journal_model.specs.declared.call.Call.{Call}
use Rattle.vm_progress.specs.StateReadEffects.{keys_read}
use Rattle.vm_outcomes.proofs.Reading.{read_carried}
use Rattle.vm_core.proofs.state.state_get_keys.Goals as goal

pub returns : goal.returns
returns c =
    read_carried keys_read (Call.StateGetKeys c.args.name) (λ active. not active.state.is_partial) (name_or_empty c.args.name) c.args.vm.now.state c.sys_state_get_keys.result c.sys_state_get_keys.new.self.state c.handled.result
    c.handled.ensures refl (λ version. refl) (λ n signal. refl) (λ given m. refl) refl c.sys_state_get_keys.ensures
