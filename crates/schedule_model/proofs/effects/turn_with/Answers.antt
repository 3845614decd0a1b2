use Rattle.schedule_model.proofs.Executing.{asked, turned}
use Rattle.schedule_model.proofs.effects.turn_with.Goals as goal

pub returns-in-Turned : goal.returns-in-Turned
returns-in-Turned g c =
    turned g.E.Effects.executes g.H.Handler.next_call c.args.id.now c.args.attempt.now c.args.effects.now c.in-Turned.turn c.turn_or_ask.new.self (rw c.in-Turned.is at c.turn_or_ask.ensures.step)
    (rw c.in-Turned.is at c.turn_or_ask.ensures.none)

pub returns-in-Asks : goal.returns-in-Asks
returns-in-Asks g c =
    asked g.E.Effects.executes g.H.Handler.next_call c.args.id.now c.args.attempt.now c.args.effects.now c.in-Asks.handle c.turn_or_ask.new.self c.execute-ran.result c.end_body.result
    c.end_body.new.self c.execute-ran.new.effects (rw c.in-Asks.is at c.turn_or_ask.ensures.step) (rw c.in-Asks.is at c.turn_or_ask.ensures.stays) (rw c.in-Asks.is at c.turn_or_ask.ensures.asks) c.execute-ran.ensures c.end_body.ensures
