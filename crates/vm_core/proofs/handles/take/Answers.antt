use Rattle.std.proofs.Common.{Ok, Err}
use Rattle.vm_outcomes.proofs.Handling.{take_carried}
use Rattle.vm_core.proofs.handles.take.Goals as goal

pub returns-in-Ok : goal.returns-in-Ok
returns-in-Ok c = take_carried c.args.handle c.args.vm.now.state (Ok c.in-Ok.taken) c.take_notification.new.self.state c.in-Ok.ensures

pub returns-in-Err : goal.returns-in-Err
returns-in-Err c = take_carried c.args.handle c.args.vm.now.state (Err c.in-Err.error) c.take_notification.new.self.state c.in-Err.ensures
