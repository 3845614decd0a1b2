-- Proved in `Starting`.
use Rattle.vm_input_laws.proofs.StartKept.{starts_are_kept}
use Rattle.vm_input_laws.proofs.starts_are_kept.Goals as goal

pub returns : goal.returns
returns c = starts_are_kept c.starts_begin_attempts.ensures
