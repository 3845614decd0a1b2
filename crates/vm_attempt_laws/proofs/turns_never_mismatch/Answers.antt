-- Proved in `Matching`.
use Rattle.vm_attempt_laws.proofs.Matching.{turns_match}
use Rattle.vm_attempt_laws.proofs.turns_never_mismatch.Goals as goal

pub returns : goal.returns
returns g c = λ function next version options. turns_match function next version options (c.turns_keep.ensures function next version options)
