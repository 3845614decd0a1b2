-- Proved in `Beginning`.
use Rattle.vm_attempt_laws.proofs.Beginning.{attempts_begin}
use Rattle.vm_attempt_laws.proofs.attempts_begin.Goals as goal

pub returns : goal.returns
returns g c = λ function next version options. attempts_begin function next version options c.starts_are_read.ensures
