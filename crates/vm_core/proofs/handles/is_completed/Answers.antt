use Rattle.vm_outcomes.proofs.Handling.{look_carried}
use Rattle.vm_core.proofs.handles.is_completed.Goals as goal

pub returns : goal.returns
returns c = look_carried c.args.handle c.is_completed.result c.args.vm.now.state c.is_completed.ensures
