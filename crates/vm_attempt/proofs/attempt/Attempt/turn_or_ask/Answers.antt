use Rattle.vm_attempt.proofs.Carried.{makes_step}
use Rattle.vm_attempt.proofs.attempt.Attempt.turn_or_ask.Goals as goal

pub returns-in-None-clause-step : goal.returns-in-None-clause-step
returns-in-None-clause-step g c = makes_step g.H.Handler.next_call c.args.self.now c.go_on.result c.go_on.new.self c.in-None.ensures.at_once c.go_on.ensures.step
