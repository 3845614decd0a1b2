-- The law is proved in `Isolation`.
use Rattle.journal_laws.proofs.Isolation.{isolated}
use Rattle.journal_laws.proofs.invocations_isolated.Goals as goal

pub returns : goal.returns
returns c = isolated
