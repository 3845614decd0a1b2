-- The laws are proved in `Isolation`.
use Rattle.schedule_laws.proofs.Isolation.{answer_alone, keep_state, stand_alone}
use Rattle.schedule_laws.proofs.invocations_stand_alone.Goals as goal

pub returns-clause-stand : goal.returns-clause-stand
returns-clause-stand c = stand_alone c.invocations_isolated.ensures

pub returns-clause-state : goal.returns-clause-state
returns-clause-state c = keep_state

pub returns-clause-answer : goal.returns-clause-answer
returns-clause-answer c = answer_alone
