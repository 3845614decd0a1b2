-- Proved in `Turning`.
use Rattle.vm_output_laws.proofs.TurnFrames.{turns_send}
use Rattle.vm_output_laws.proofs.turns_send.Goals as goal

pub returns : goal.returns
returns c = turns_send
