-- The laws are proved in `Begun`.
use Rattle.store_live_laws.proofs.Begun.{invoked, begun}
use Rattle.store_live_laws.proofs.begun_kept.Goals as goal

pub returns-clause-invoked : goal.returns-clause-invoked
returns-clause-invoked c = invoked

pub returns-clause-begun : goal.returns-clause-begun
returns-clause-begun c = begun
