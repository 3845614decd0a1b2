-- The law is proved in `Holding`.
use Rattle.run_laws.proofs.Holding.{whole_same}
use Rattle.run_laws.proofs.runs_record_the_same.Goals as goal

pub returns : goal.returns
returns c = whole_same
