use Rattle.std.proofs.Common.{refl}
use Rattle.journal_model.specs.declared.call.Call.{Call}
use Rattle.vm_outcomes.proofs.Calling.{handle_carried}
use Rattle.vm_core.proofs.invocations.get_output.Goals as goal

pub returns : goal.returns
returns c =
    handle_carried (Call.GetOutput c.args.target) c.args.vm.now.state c.sys_get_invocation_output.result c.sys_get_invocation_output.new.self.state c.handled.result c.handled.ensures (λ n signal. refl) (λ given m. refl) refl refl c.sys_get_invocation_output.ensures
