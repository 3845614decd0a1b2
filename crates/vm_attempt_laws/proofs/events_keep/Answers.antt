-- Proved in `Feeding`.
use Rattle.vm_attempt_laws.proofs.Feeding.{events_keep}
use Rattle.vm_attempt_laws.proofs.events_keep.Goals as goal

pub returns : goal.returns
returns g c = λ function next version options. events_keep function next version options
