use Rattle.scheduler.proofs.Scheduling.{read_still}
use Rattle.scheduler.proofs.scheduler.Scheduler.answer.Goals as goal

pub returns-clause-told : goal.returns-clause-told
returns-clause-told g c clean s is =
    let it = c.answer.ensures.told clean s.standing.events is.standing.stands in
    (it.0, read_still g.S.Store s c.args.self.now c.answer.new.self is it.1 c.answer.ensures.live)
