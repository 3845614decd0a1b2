-- Proved in `Holding`.
use Rattle.vm_input_laws.proofs.Holding.{no_arrival_is_held}
use Rattle.vm_input_laws.proofs.no_arrival_is_held.Goals as goal

pub returns : goal.returns
returns c = no_arrival_is_held
