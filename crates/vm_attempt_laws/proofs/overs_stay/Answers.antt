-- Proved in `Over`.
use Rattle.vm_attempt_laws.proofs.Over.{overs_stay}
use Rattle.vm_attempt_laws.proofs.overs_stay.Goals as goal

pub returns : goal.returns
returns g c = λ function. overs_stay function
