-- Proved in `Machines`.
use Rattle.vm_request_laws.proofs.Machines.{machines_fit}
use Rattle.vm_request_laws.proofs.machines_fit.Goals as goal

pub returns : goal.returns
returns c = machines_fit
