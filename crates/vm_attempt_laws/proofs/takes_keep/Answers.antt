-- Proved in `Taking`.
use Rattle.vm_attempt_laws.proofs.Taking.{takes_keep}
use Rattle.vm_attempt_laws.proofs.takes_keep.Goals as goal

pub returns : goal.returns
returns g c = λ function next version options. takes_keep function next version options
