use Rattle.vm_progress.proofs.AwaitedRuns.{hands_out, executes_none}
use Rattle.vm_progress.proofs.asleep.sleep_with.Goals as goal

pub returns-in-Some : goal.returns-in-Some
returns-in-Some c = hands_out c.args.waits c.in-Some.handle c.args.vm.now c.next_run.new.runs c.in-Some.ensures

pub returns-in-None : goal.returns-in-None
returns-in-None c = executes_none c.args.waits c.args.vm.now c.next_run.new.runs c.sleep_on.result c.sleep_on.new.vm c.in-None.ensures c.sleep_on.ensures
