use Rattle.scheduler.proofs.Looping.{not_turned, turned_on}
use Rattle.scheduler.proofs.scheduler.Scheduler.step.Goals as goal

pub returns-in-Ok : goal.returns-in-Ok
returns-in-Ok g c =
    turned_on g.S.Store g.E.Effects.executes g.H.Handler.next_call c.args.id.now c.args.attempt c.args.is_closed c.in-Ok.turn c.move_behind.result c.args.self.now c.turn_with.new.self c.move_behind.new.self c.args.effects.now
    c.turn_with.new.effects c.turn_with.new.effects (rw c.in-Ok.is at c.turn_with.ensures) (c.move_behind.ensures c.turn_with.new.effects)

pub returns-in-Err : goal.returns-in-Err
returns-in-Err g c =
    not_turned g.S.Store g.E.Effects.executes g.H.Handler.next_call c.args.id.now c.args.attempt c.args.is_closed c.in-Err.why c.args.self.now c.turn_with.new.self c.args.effects.now c.turn_with.new.effects
    (rw c.in-Err.is at c.turn_with.ensures)
