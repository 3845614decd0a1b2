-- Proved in `Progress`.
use Rattle.vm_attempt_laws.proofs.Progress.{turns_answer}
use Rattle.vm_attempt_laws.proofs.turns_progress.Goals as goal

pub returns : goal.returns
returns g c = λ function next version options. turns_answer function next version options (c.turns_keep.ensures function next version options)
