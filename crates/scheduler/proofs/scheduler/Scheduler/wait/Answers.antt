use Rattle.scheduler.proofs.Looping.{waits_fed, waits_not_fed, waits_over}
use Rattle.scheduler.proofs.scheduler.Scheduler.wait.Goals as goal

pub returns-then-is_closed : goal.returns-then-is_closed
returns-then-is_closed g c e = waits_over g.S.Store g.E.Effects.executes g.H.Handler.next_call c.args.id.now c.args.attempt c.args.is_closed c.if-is_closed.true c.args.self.now e

pub returns-in-Ok : goal.returns-in-Ok
returns-in-Ok g c e =
    waits_fed g.S.Store g.E.Effects.executes g.H.Handler.next_call c.args.id.now c.args.attempt c.args.is_closed c.if-is_closed.false c.in-Ok.is_none c.go_on_fed.result c.args.self.now c.feed_all.new.self
    c.go_on_fed.new.self e e (rw c.in-Ok.is at c.feed_all.ensures) (c.go_on_fed.ensures e)

pub returns-in-Err : goal.returns-in-Err
returns-in-Err g c e =
    waits_not_fed g.S.Store g.E.Effects.executes g.H.Handler.next_call c.args.id.now c.args.attempt c.args.is_closed c.if-is_closed.false c.in-Err.why c.args.self.now c.feed_all.new.self e (rw c.in-Err.is at c.feed_all.ensures)
