-- The law is proved in `Coming`.
use Rattle.attempt_laws.proofs.Coming.{kinds_by_asking}
use Rattle.attempt_laws.proofs.kinds_come_as_asked.Goals as goal

pub returns : goal.returns
returns c = kinds_by_asking
