use Rattle.vm_attempt.proofs.Carried.{asked_body, carried}
use Rattle.vm_attempt.proofs.attempt.Attempt.carry.Goals as goal

pub returns-clause-step : goal.returns-clause-step
returns-clause-step g c =
    carried c.args.call c.args.self.now c.carry_out-outcome.new.vm c.carry_out-outcome.result c.come_to.result c.come_to.new.self c.call_is_typed.ensures c.carry_out-outcome.ensures.driven c.come_to.ensures.step

pub returns-clause-asks : goal.returns-clause-asks
returns-clause-asks g c =
    asked_body c.args.call c.args.self.now c.carry_out-outcome.new.vm c.carry_out-outcome.result c.come_to.result c.come_to.new.self c.call_is_typed.ensures c.carry_out-outcome.ensures.driven c.come_to.ensures.asks
