use Rattle.std.proofs.Common.{Ok, Err}
use Rattle.vm_outcomes.proofs.Handling.{awakeable_carried}
use Rattle.vm_core.proofs.handles.awakeable.Goals as goal

pub returns-in-Ok : goal.returns-in-Ok
returns-in-Ok c = awakeable_carried c.args.vm.now.state (Ok c.in-Ok.made) c.sys_awakeable.new.self.state c.in-Ok.ensures.steps

pub returns-in-Err : goal.returns-in-Err
returns-in-Err c = awakeable_carried c.args.vm.now.state (Err c.in-Err.error) c.sys_awakeable.new.self.state c.in-Err.ensures.steps
