-- The law is proved in `Beginnings`.
use Rattle.schedule_laws.proofs.Beginnings.{fed_begun}
use Rattle.schedule_laws.proofs.attempts_are_fed_well.Goals as goal

pub returns : goal.returns
returns c = fed_begun
