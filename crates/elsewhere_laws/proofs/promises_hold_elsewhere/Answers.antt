-- The law is proved in `Promises`.
use Rattle.elsewhere_laws.proofs.Promises.{promises_hold}
use Rattle.elsewhere_laws.proofs.promises_hold_elsewhere.Goals as goal

pub returns : goal.returns
returns c = promises_hold
