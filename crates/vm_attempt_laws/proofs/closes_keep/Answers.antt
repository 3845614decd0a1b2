-- Proved in `Closing`.
use Rattle.vm_attempt_laws.proofs.Closing.{closes_keep}
use Rattle.vm_attempt_laws.proofs.closes_keep.Goals as goal

pub returns : goal.returns
returns g c = λ function next version options. closes_keep function next version options
