use Rattle.scheduler.proofs.Looping.{came, came_none}
use Rattle.scheduler.proofs.scheduler.Scheduler.go_on_fed.Goals as goal

pub returns-then-is_none : goal.returns-then-is_none
returns-then-is_none g c e =
    came_none g.S.Store g.E.Effects.executes g.H.Handler.next_call c.args.id.now c.args.attempt c.args.is_none c.if-is_none.true c.close_waiting.result c.args.self.now c.close_waiting.new.self e e
    (c.close_waiting.ensures e)

pub returns : goal.returns
returns g c e = came g.S.Store g.E.Effects.executes g.H.Handler.next_call c.args.id.now c.args.attempt c.args.is_none c.if-is_none.false c.args.self.now e
