use Rattle.vm_proposals.proofs.Called.{bodies_called}
use Rattle.vm_proposals.proofs.calling.sys_run.Goals as goal

pub returns-clause-bodies : goal.returns-clause-bodies
returns-clause-bodies c = bodies_called c.args.name c.args.vm.now c.call_run.result c.call_run.new.vm c.call_run.ensures
