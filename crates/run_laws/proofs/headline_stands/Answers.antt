-- The law is proved in `Holding`.
use Rattle.run_laws.proofs.Holding.{headline}
use Rattle.run_laws.proofs.headline_stands.Goals as goal

pub returns : goal.returns
returns c = headline
