-- The law is proved in `Beginnings`.
use Rattle.schedule_laws.proofs.Beginnings.{can_start}
use Rattle.schedule_laws.proofs.attempts_can_start.Goals as goal

pub returns : goal.returns
returns c = can_start
