-- Proved in `Writing`.
use Rattle.vm_output_laws.proofs.WrittenFrames.{frames_are_written}
use Rattle.vm_output_laws.proofs.frames_are_written.Goals as goal

pub returns : goal.returns
returns c = frames_are_written
