use Rattle.std.proofs.Common.{refl}
use Rattle.journal_model.specs.declared.call.Call.{Call}
use Rattle.vm_outcomes.proofs.Calling.{handle_carried}
use Rattle.vm_core.proofs.promises.get_promise.Goals as goal

pub returns : goal.returns
returns c =
    handle_carried (Call.GetPromise c.args.key) c.args.vm.now.state c.sys_get_promise.result c.sys_get_promise.new.self.state c.handled.result c.handled.ensures (λ n signal. refl) (λ given m. refl) refl refl c.sys_get_promise.ensures
