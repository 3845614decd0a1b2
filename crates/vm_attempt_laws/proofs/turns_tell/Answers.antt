-- Proved in `Telling`.
use Rattle.vm_attempt_laws.proofs.TurnReports.{turns_tell}
use Rattle.vm_attempt_laws.proofs.turns_tell.Goals as goal

pub returns : goal.returns
returns g c = λ function next version options. turns_tell function next version options (c.turns_keep.ensures function next version options)
