-- Proved in `Suspensions`.
use Rattle.protocol_messages.proofs.Suspensions.{suspensions_read_back}
use Rattle.protocol_messages.proofs.laws.suspensions_read_back.Goals as goal

pub returns : goal.returns
returns c = suspensions_read_back
