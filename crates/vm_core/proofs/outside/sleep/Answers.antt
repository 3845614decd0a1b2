use Rattle.std.proofs.Common.{refl}
use Rattle.journal_model.specs.declared.call.Call.{Call}
use Rattle.vm_outcomes.proofs.Calling.{handle_carried}
use Rattle.vm_core.proofs.outside.sleep.Goals as goal

pub returns : goal.returns
returns c =
    handle_carried (Call.Sleep c.args.name c.args.wake_up c.args.now) c.args.vm.now.state c.sys_sleep.result c.sys_sleep.new.self.state c.handled.result c.handled.ensures (λ n signal. refl) (λ given m. refl) refl refl c.sys_sleep.ensures
