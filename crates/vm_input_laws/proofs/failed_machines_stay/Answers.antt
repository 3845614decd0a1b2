-- Proved in `Staying`.
use Rattle.vm_input_laws.proofs.Staying.{failed_machines_stay}
use Rattle.vm_input_laws.proofs.failed_machines_stay.Goals as goal

pub returns : goal.returns
returns c = failed_machines_stay
