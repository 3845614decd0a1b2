use Rattle.scheduler.proofs.Scheduling.{read_still}
use Rattle.scheduler.proofs.scheduler.Scheduler.failure.Goals as goal

pub returns-clause-told : goal.returns-clause-told
returns-clause-told g c clean s is =
    let it = c.failure.ensures.told clean s.standing.events is.standing.stands in
    (it.0, read_still g.S.Store s c.args.self.now c.failure.new.self is it.1 c.failure.ensures.live)
