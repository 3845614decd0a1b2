use Rattle.vm_outcomes.proofs.Ending.{end_carried}
use Rattle.vm_core.proofs.awaits.end.Goals as goal

pub returns : goal.returns
returns c = end_carried c.args.vm.now.state c.sys_end.result c.sys_end.new.self.state c.ended.result c.ended.ensures c.sys_end.ensures
