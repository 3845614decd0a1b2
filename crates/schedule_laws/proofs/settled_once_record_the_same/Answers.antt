-- The law is proved in `SettledOnce`.
use Rattle.schedule_laws.proofs.SettledOnce.{settled_once}
use Rattle.schedule_laws.proofs.settled_once_record_the_same.Goals as goal

pub returns : goal.returns
returns c = settled_once
