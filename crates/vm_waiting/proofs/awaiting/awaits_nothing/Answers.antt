use Rattle.vm_waiting.proofs.AwaitLemmas.{nothing_where_empty}
use Rattle.vm_waiting.proofs.awaiting.awaits_nothing.Goals as goal

pub returns-in-FirstCompleted : goal.returns-in-FirstCompleted
returns-in-FirstCompleted c = nothing_where_empty c.args.future.now c.in-FirstCompleted.children c.is_empty.result c.in-FirstCompleted.is c.is_empty.ensures
