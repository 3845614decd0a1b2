-- The laws are proved in `attempt_laws`.
use Rattle.attempt_laws.proofs.Simulating.{simulates, stops_with_run}
use Rattle.attempt_laws.proofs.calls_simulate.Goals as goal

pub returns-clause-answers : goal.returns-clause-answers
returns-clause-answers c = simulates

pub returns-clause-stops : goal.returns-clause-stops
returns-clause-stops c = stops_with_run
