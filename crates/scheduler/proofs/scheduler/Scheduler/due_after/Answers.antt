use Rattle.scheduler.proofs.Scheduling.{read_still}
use Rattle.scheduler.proofs.scheduler.Scheduler.due_after.Goals as goal

pub returns-clause-told : goal.returns-clause-told
returns-clause-told g c clean s is =
    let it = c.due_after.ensures.told clean s.standing.events is.standing.stands in
    (it.0, read_still g.S.Store s c.args.self.now c.due_after.new.self is it.1 c.due_after.ensures.live)
