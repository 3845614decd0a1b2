-- The law is proved in `Replaying`.
use Rattle.run_laws.proofs.Replaying.{replays}
use Rattle.run_laws.proofs.calls_replay.Goals as goal

pub returns : goal.returns
returns c = replays
