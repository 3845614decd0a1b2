-- All are proved in `Beginning`, `Holding` and `Forgetting`.
use Rattle.run_laws.proofs.Beginning.{unborn_holds}
use Rattle.run_laws.proofs.Holding.{holds_step, all_holds}
use Rattle.run_laws.proofs.Forgetting.{others_hold}
use Rattle.run_laws.proofs.records_hold.Goals as goal

pub returns-clause-at_first : goal.returns-clause-at_first
returns-clause-at_first c = λ next given id events accepted unborn. unborn_holds next given id events accepted unborn

pub returns-clause-on : goal.returns-clause-on
returns-clause-on c = λ next given id event events accepted of_run h. holds_step next given id event events accepted of_run h

pub returns-clause-of_taken : goal.returns-clause-of_taken
returns-clause-of_taken c = λ next given id events accepted of_run. all_holds next given id events accepted of_run

pub returns-clause-of_others : goal.returns-clause-of_others
returns-clause-of_others c = others_hold
