use Rattle.std.proofs.Common.{refl}
use Rattle.journal_model.specs.declared.call.Call.{Call}
use Rattle.vm_outcomes.proofs.Calling.{done_carried}
use Rattle.vm_core.proofs.state.state_clear.Goals as goal

pub returns : goal.returns
returns c =
    done_carried (Call.StateClear c.args.key c.args.name) c.args.vm.now.state c.sys_state_clear.result c.sys_state_clear.new.self.state c.done.result c.done.ensures (λ n signal. refl) (λ given m. refl) refl refl c.sys_state_clear.ensures
