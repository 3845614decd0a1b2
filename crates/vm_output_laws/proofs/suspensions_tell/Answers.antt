-- Proved in `Telling`.
use Rattle.vm_output_laws.proofs.SuspensionContent.{suspensions_tell}
use Rattle.vm_output_laws.proofs.suspensions_tell.Goals as goal

pub returns : goal.returns
returns c = suspensions_tell
