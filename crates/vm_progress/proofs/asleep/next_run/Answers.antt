use Rattle.vm_progress.proofs.AwaitedRuns.{looks_in, looks_for_child}
use Rattle.vm_progress.proofs.asleep.next_run.Goals as goal

pub returns-in-Future : goal.returns-in-Future
returns-in-Future c =
    looks_in c.args.waits.now c.in-Future.left c.args.runs.now c.try_execute_run.result c.try_execute_run.new.self c.in-Future.is c.try_execute_run.ensures.least c.try_execute_run.ensures.runs c.try_execute_run.ensures.bodies

pub returns-in-Child : goal.returns-in-Child
returns-in-Child c = looks_for_child c.args.waits.now _ c.args.runs.now c.in-Child.is
