-- Proved in `Arrivals`.
use Rattle.vm_input_laws.proofs.Arrivals.{arrivals_read_back}
use Rattle.vm_input_laws.proofs.arrivals_read_back.Goals as goal

pub returns : goal.returns
returns c = arrivals_read_back
