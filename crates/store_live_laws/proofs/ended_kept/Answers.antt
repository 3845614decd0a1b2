-- The laws are proved in `Steps`.
use Rattle.store_live_laws.proofs.Steps.{ended, stopped}
use Rattle.store_live_laws.proofs.ended_kept.Goals as goal

pub returns : goal.returns
returns c = record { ended = ended; stopped = stopped }
