use Rattle.scheduler.proofs.Looping.{moved, not_moved}
use Rattle.scheduler.proofs.scheduler.Scheduler.move_behind.Goals as goal

pub returns-in-Ok : goal.returns-in-Ok
returns-in-Ok g c e =
    moved g.S.Store g.E.Effects.executes g.H.Handler.next_call c.args.id.now c.args.attempt c.args.is_closed c.args.turn tt c.go_on_by.result c.args.self.now c.move_all.new.self c.go_on_by.new.self e e
    (rw c.in-Ok.is at c.move_all.ensures) (c.go_on_by.ensures e)

pub returns-in-Err : goal.returns-in-Err
returns-in-Err g c e =
    not_moved g.S.Store g.E.Effects.executes g.H.Handler.next_call c.args.id.now c.args.attempt c.args.is_closed c.args.turn c.in-Err.why c.args.self.now c.move_all.new.self e (rw c.in-Err.is at c.move_all.ensures)
