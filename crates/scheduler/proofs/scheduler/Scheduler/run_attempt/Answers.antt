use Rattle.scheduler.proofs.Looping.{fed_on, not_fed}
use Rattle.scheduler.proofs.scheduler.Scheduler.run_attempt.Goals as goal

pub returns-in-Ok : goal.returns-in-Ok
returns-in-Ok g c =
    fed_on g.S.Store g.E.Effects.executes g.H.Handler.next_call c.args.id.now c.args.attempt c.args.most c.in-Ok.field-0 c.make_turns.result c.args.self.now c.feed_all.new.self c.make_turns.new.self c.args.effects.now
    c.make_turns.new.effects (rw c.in-Ok.is at c.feed_all.ensures) c.make_turns.ensures

pub returns-in-Err : goal.returns-in-Err
returns-in-Err g c =
    not_fed g.S.Store g.E.Effects.executes g.H.Handler.next_call c.args.id.now c.args.attempt c.args.most c.in-Err.why c.args.self.now c.feed_all.new.self c.args.effects.now (rw c.in-Err.is at c.feed_all.ensures)
