use Rattle.scheduler.proofs.Looping.{body_fed, body_not_fed, body_over}
use Rattle.scheduler.proofs.scheduler.Scheduler.feed_behind_body.Goals as goal

pub returns-then-is_closed : goal.returns-then-is_closed
returns-then-is_closed g c e = body_over g.S.Store g.E.Effects.executes g.H.Handler.next_call c.args.id.now c.args.attempt c.args.is_closed c.if-is_closed.true c.args.self.now e

pub returns-in-Ok : goal.returns-in-Ok
returns-in-Ok g c e =
    body_fed g.S.Store g.E.Effects.executes g.H.Handler.next_call c.args.id.now c.args.attempt c.args.is_closed c.if-is_closed.false c.in-Ok.field-0 c.args.self.now c.feed_all.new.self e (rw c.in-Ok.is at c.feed_all.ensures)

pub returns-in-Err : goal.returns-in-Err
returns-in-Err g c e =
    body_not_fed g.S.Store g.E.Effects.executes g.H.Handler.next_call c.args.id.now c.args.attempt c.args.is_closed c.if-is_closed.false c.in-Err.why c.args.self.now c.feed_all.new.self e (rw c.in-Err.is at c.feed_all.ensures)
