use Rattle.scheduler.proofs.Turning.{turned, not_held}
use Rattle.scheduler.proofs.scheduler.Scheduler.turn_with.Goals as goal

pub returns-in-None : goal.returns-in-None
returns-in-None g c =
    not_held g.S.Store g.E.Effects.executes g.H.Handler.next_call c.args.invocation.now c.args.number c.args.self.now c.get_mut.result c.get_mut.ensures.found c.in-None.is c.args.effects.now

pub returns-in-Some : goal.returns-in-Some
returns-in-Some g c =
    turned g.S.Store g.E.Effects.executes g.H.Handler.next_call c.args.invocation.now c.args.number c.args.self.now c.get_mut.result c.get_mut.ensures.found c.in-Some.attempt c.in-Some.is c.turn_with.new.self c.turn_with.result
    c.args.effects.now c.turn_with.new.effects c.turn_with.ensures
