use Rattle.std.proofs.Common.{refl}
use Rattle.journal_model.specs.declared.call.Call.{Call}
use Rattle.vm_outcomes.proofs.Calling.{done_carried}
use Rattle.vm_core.proofs.state.state_set.Goals as goal

pub returns : goal.returns
returns c =
    done_carried (Call.StateSet c.args.key c.args.value c.args.name c.args.options) c.args.vm.now.state c.sys_state_set.result c.sys_state_set.new.self.state c.done.result c.done.ensures (λ n signal. refl) (λ given m. refl) refl refl c.sys_state_set.ensures
