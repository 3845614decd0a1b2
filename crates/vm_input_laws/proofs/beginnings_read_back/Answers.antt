-- Proved in `Beginning`.
use Rattle.vm_input_laws.proofs.StartSpelled.{inputs_read_back, starts_read_back}
use Rattle.vm_input_laws.proofs.beginnings_read_back.Goals as goal

pub returns-clause-start : goal.returns-clause-start
returns-clause-start c = starts_read_back

pub returns-clause-input : goal.returns-clause-input
returns-clause-input c = inputs_read_back
