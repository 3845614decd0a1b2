-- Proved in `Feeding`.
use Rattle.vm_attempt_laws.proofs.Feeding.{feeds_keep}
use Rattle.vm_attempt_laws.proofs.feeds_keep.Goals as goal

pub returns : goal.returns
returns g c = λ function next version options. feeds_keep function next version options c.attempts_replay.ensures.stays c.journals_are_read.ensures c.inputs_are_kept.ensures
