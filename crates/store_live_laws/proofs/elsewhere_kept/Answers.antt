-- The laws are proved in `Steps` and `Forgetting`.
use Rattle.store_live_laws.proofs.Steps.{at_first, elsewhere}
use Rattle.store_live_laws.proofs.Forgetting.{agrees_forgotten}
use Rattle.store_live_laws.proofs.elsewhere_kept.Goals as goal

pub returns-clause-first : goal.returns-clause-first
returns-clause-first c = at_first

pub returns-clause-elsewhere : goal.returns-clause-elsewhere
returns-clause-elsewhere c = elsewhere

pub returns-clause-forgotten : goal.returns-clause-forgotten
returns-clause-forgotten c = agrees_forgotten
