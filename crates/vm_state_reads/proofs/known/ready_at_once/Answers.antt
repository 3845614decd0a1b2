use Rattle.std.proofs.Common.{refl}
use Rattle.vm_state_reads.proofs.known.ready_at_once.Goals as goal

pub returns-in-None : goal.returns-in-None
returns-in-None c = rw c.in-None.is refl
