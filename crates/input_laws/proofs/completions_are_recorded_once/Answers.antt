-- The laws are proved in `Once` and in `Results`.
use Rattle.input_laws.proofs.Once.{recorded_once}
use Rattle.input_laws.proofs.Results.{recorded_when_asked}
use Rattle.input_laws.proofs.completions_are_recorded_once.Goals as goal

pub returns-clause-counted : goal.returns-clause-counted
returns-clause-counted c = recorded_once

pub returns-clause-by_result : goal.returns-clause-by_result
returns-clause-by_result c = recorded_when_asked
