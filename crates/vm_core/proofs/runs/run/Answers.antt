use Rattle.std.proofs.Common.{Ok, Err}
use Rattle.vm_outcomes.proofs.Running.{run_carried}
use Rattle.vm_core.proofs.runs.run.Goals as goal

pub returns-in-Ok : goal.returns-in-Ok
returns-in-Ok c = run_carried c.args.name c.args.vm.now.state (Ok c.in-Ok.made) c.sys_run.new.self.state c.in-Ok.ensures.calls c.in-Ok.ensures.bodies

pub returns-in-Err : goal.returns-in-Err
returns-in-Err c = run_carried c.args.name c.args.vm.now.state (Err c.in-Err.error) c.sys_run.new.self.state c.in-Err.ensures.calls c.in-Err.ensures.bodies
