-- It is proved in `Living`.
use Rattle.live_laws.proofs.LiveMachines.{machine_stays}
use Rattle.live_laws.proofs.machines_stay_live.Goals as goal

pub returns : goal.returns
returns c = machine_stays
