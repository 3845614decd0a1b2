use Rattle.vm_attempt.specs.declared.turn.Finish.TheVariants as finishes
use Rattle.vm_attempt.proofs.Carried.{answer_none, finish_none}
use Rattle.vm_attempt.proofs.attempt.Attempt.come_to.Goals as goal

pub returns-in-Answered-clause-none : goal.returns-in-Answered-clause-none
returns-in-Answered-clause-none g c = answer_none c.in-Answered.answer c.args.self.now c.take_answer.result c.take_answer.new.self c.take_answer.ensures

pub returns-in-Suspended-clause-none : goal.returns-in-Suspended-clause-none
returns-in-Suspended-clause-none g c = finish_none finishes.Suspended c.args.self.now c.finish.result c.finish.new.self c.finish.ensures

pub returns-in-Ended-clause-none : goal.returns-in-Ended-clause-none
returns-in-Ended-clause-none g c = finish_none finishes.Ended c.args.self.now c.finish-in-Ended.result c.finish-in-Ended.new.self c.finish-in-Ended.ensures
