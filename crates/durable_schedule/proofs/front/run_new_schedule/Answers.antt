use Rattle.std.proofs.lemmas.Result.{IfOk-weaker}
use Rattle.std.specs.Prelude.{[]}
use Rattle.durable_schedule.proofs.front.run_new_schedule.Goals as goal

-- no event was accepted before
pub returns-clause-faithful : goal.returns-clause-faithful
returns-clause-faithful g c = IfOk-weaker c.run_reopened_schedule.result _ _ (λ done faithful. faithful []) c.run_reopened_schedule.ensures.faithful

pub returns-clause-crash : goal.returns-clause-crash
returns-clause-crash g c = IfOk-weaker c.run_reopened_schedule.result _ _ (λ done crash. crash []) c.run_reopened_schedule.ensures.crash

pub returns-clause-written : goal.returns-clause-written
returns-clause-written g c = IfOk-weaker c.run_reopened_schedule.result _ _ (λ done written. written []) c.run_reopened_schedule.ensures.written
