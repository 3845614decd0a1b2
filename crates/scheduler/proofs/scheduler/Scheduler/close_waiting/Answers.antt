use Rattle.scheduler.proofs.Looping.{closed, not_closed}
use Rattle.scheduler.proofs.scheduler.Scheduler.close_waiting.Goals as goal

pub returns-in-Ok : goal.returns-in-Ok
returns-in-Ok g c e = closed g.S.Store g.E.Effects.executes g.H.Handler.next_call c.args.id.now c.args.attempt tt c.args.self.now c.close_now.new.self e (rw c.in-Ok.is at c.close_now.ensures)

pub returns-in-Err : goal.returns-in-Err
returns-in-Err g c e = not_closed g.S.Store g.E.Effects.executes g.H.Handler.next_call c.args.id.now c.args.attempt c.in-Err.why c.args.self.now c.close_now.new.self e (rw c.in-Err.is at c.close_now.ensures)
