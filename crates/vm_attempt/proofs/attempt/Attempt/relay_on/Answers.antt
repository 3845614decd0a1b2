use Rattle.std.proofs.Common.{sym}
use Rattle.vm_attempt.proofs.Carried.{asked, asks_where, read_none}
use Rattle.vm_attempt.proofs.attempt.Attempt.relay_on.Goals as goal

pub returns-in-Some-clause-step : goal.returns-in-Some-clause-step
returns-in-Some-clause-step g c = λ function next. asked function c.in-Some.field-0 c.args.call c.args.self.now c.carry.result c.carry.new.self c.in-Some.is (sym (next c.in-Some.field-0 c.in-Some.is)) c.carry.ensures.step

pub returns-in-Some-clause-asks : goal.returns-in-Some-clause-asks
returns-in-Some-clause-asks g c = λ function next. asks_where function c.in-Some.field-0 c.args.call c.args.self.now c.carry.result c.carry.new.self c.in-Some.is (sym (next c.in-Some.field-0 c.in-Some.is)) c.carry.ensures.asks

pub returns-in-None-clause-none : goal.returns-in-None-clause-none
returns-in-None-clause-none g c = read_none c.args.self.now c.read_input.result c.read_input.new.self c.read_input.ensures
