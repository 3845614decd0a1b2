-- The law is proved in `Settled`.
use Rattle.run_laws.proofs.Settled.{settled_same}
use Rattle.run_laws.proofs.settled_record_the_same.Goals as goal

pub returns : goal.returns
returns c = settled_same
