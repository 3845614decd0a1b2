-- Proved in `Reading`.
use Rattle.vm_output_laws.proofs.FrameMeanings.{frames_are_read}
use Rattle.vm_output_laws.proofs.frames_are_read.Goals as goal

pub returns : goal.returns
returns c = frames_are_read
