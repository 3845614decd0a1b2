use Rattle.vm_progress.proofs.AwaitedRuns.{stays_by}
use Rattle.vm_progress.proofs.asleep.stay_with.Goals as goal

pub returns : goal.returns
returns c =
    stays_by c.args.waits c.args.vm.now c.is_executing-executing.result c.any_executing.result c.tell_awaiting_on-told.result c.tell_awaiting_on-told.new.active c.settle_stay.result c.settle_stay.new.vm
    c.is_executing-executing.ensures c.any_executing.ensures.any c.tell_awaiting_on-told.ensures c.settle_stay.ensures
