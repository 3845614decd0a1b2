use Rattle.std.proofs.Common.{refl}
use Rattle.journal_model.specs.declared.call.Call.{Call}
use Rattle.vm_outcomes.proofs.Calling.{handle_carried}
use Rattle.vm_core.proofs.invocations.attach.Goals as goal

pub returns : goal.returns
returns c =
    handle_carried (Call.Attach c.args.target) c.args.vm.now.state c.sys_attach_invocation.result c.sys_attach_invocation.new.self.state c.handled.result c.handled.ensures (λ n signal. refl) (λ given m. refl) refl refl c.sys_attach_invocation.ensures
