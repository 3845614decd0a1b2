-- It is proved in `Living`.
use Rattle.live_laws.proofs.LiveMachines.{machine_begins}
use Rattle.live_laws.proofs.machines_begin.Goals as goal

pub returns : goal.returns
returns c = machine_begins
