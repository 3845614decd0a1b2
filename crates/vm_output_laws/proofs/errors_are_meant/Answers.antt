-- Proved in `Reading`.
use Rattle.vm_output_laws.proofs.FrameMeanings.{errors_are_meant}
use Rattle.vm_output_laws.proofs.errors_are_meant.Goals as goal

pub returns : goal.returns
returns c = errors_are_meant
