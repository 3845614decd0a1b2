-- It is proved in `Turning`.
use Rattle.live_laws.proofs.MachineTurn.{machine_turns}
use Rattle.live_laws.proofs.machines_turn.Goals as goal

pub returns : goal.returns
returns c = machine_turns
