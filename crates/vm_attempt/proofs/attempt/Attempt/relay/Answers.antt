use Rattle.vm_attempt.proofs.Carried.{makes_step}
use Rattle.vm_attempt.proofs.attempt.Attempt.relay.Goals as goal

pub returns-in-None-clause-step : goal.returns-in-None-clause-step
returns-in-None-clause-step g c = λ function next. makes_step function c.args.self.now c.relay_on.result c.relay_on.new.self c.in-None.ensures.at_once (c.relay_on.ensures.step function next)
