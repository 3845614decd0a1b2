use Rattle.std.proofs.Common.{refl}
use Rattle.journal_model.specs.declared.call.Call.{Call}
use Rattle.vm_outcomes.proofs.Calling.{done_carried}
use Rattle.vm_core.proofs.outside.cancel.Goals as goal

pub returns : goal.returns
returns c =
    done_carried (Call.Cancel c.args.target_id) c.args.vm.now.state c.sys_cancel_invocation.result c.sys_cancel_invocation.new.self.state c.done.result c.done.ensures (λ n signal. refl) (λ given m. refl) refl refl c.sys_cancel_invocation.ensures
