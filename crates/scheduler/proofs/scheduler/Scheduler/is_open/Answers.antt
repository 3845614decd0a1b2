use Rattle.scheduler.proofs.Scheduling.{read_still}
use Rattle.scheduler.proofs.scheduler.Scheduler.is_open.Goals as goal

pub returns-clause-told : goal.returns-clause-told
returns-clause-told g c clean s is =
    let it = c.is_open.ensures.told clean s.standing.events is.standing.stands in
    (it.0, read_still g.S.Store s c.args.self.now c.is_open.new.self is it.1 c.is_open.ensures.live)
