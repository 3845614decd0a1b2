-- All are proved in `Memory` and `Reading`.
use Rattle.store_live_laws.proofs.Memory.{arrivals_are_told}
use Rattle.store_live_laws.proofs.Reading.{input_agrees, inputs_count}
use Rattle.store_live_laws.proofs.inputs_agree.Goals as goal

pub returns-clause-steps : goal.returns-clause-steps
returns-clause-steps c = input_agrees

pub returns-clause-counts : goal.returns-clause-counts
returns-clause-counts c = inputs_count

pub returns-clause-arrivals : goal.returns-clause-arrivals
returns-clause-arrivals c = arrivals_are_told
