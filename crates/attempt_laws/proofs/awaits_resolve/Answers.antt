-- The law is proved in `FirstAsks`.
use Rattle.attempt_laws.proofs.FirstAsks.{first_asks}
use Rattle.attempt_laws.proofs.awaits_resolve.Goals as goal

pub returns : goal.returns
returns c = first_asks
