use Rattle.std.proofs.Common.{refl}
use Rattle.journal_model.specs.declared.call.Call.{Call}
use Rattle.vm_outcomes.proofs.Calling.{done_carried}
use Rattle.vm_core.proofs.state.state_clear_all.Goals as goal

pub returns : goal.returns
returns c =
    done_carried (Call.StateClearAll c.args.name) c.args.vm.now.state c.sys_state_clear_all.result c.sys_state_clear_all.new.self.state c.done.result c.done.ensures (λ n signal. refl) (λ given m. refl) refl refl c.sys_state_clear_all.ensures
