-- It is proved in `Reading`.
use Rattle.live_laws.proofs.MachinePosition.{machine_position}
use Rattle.live_laws.proofs.machines_have_positions.Goals as goal

pub returns : goal.returns
returns c = machine_position
