use Rattle.std.proofs.Common.{refl}
use Rattle.journal_model.specs.declared.call.Call.{Call}
use Rattle.vm_outcomes.proofs.Calling.{done_carried}
use Rattle.vm_core.proofs.outside.complete_signal.Goals as goal

pub returns : goal.returns
returns c =
    done_carried (Call.CompleteSignal c.args.target_id c.args.name c.args.value) c.args.vm.now.state c.sys_complete_signal.result c.sys_complete_signal.new.self.state c.done.result c.done.ensures (λ n signal. refl) (λ given m. refl) refl refl c.sys_complete_signal.ensures
