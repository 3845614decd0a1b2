use Rattle.store_model.proofs.DueSleeps.{ended_found}
use Rattle.store_model.proofs.OpenSleeps.{sleeps_kept_after}
use Rattle.store_model.proofs.sleeps_found.Goals as goal

pub returns-clause-open : goal.returns-clause-open
returns-clause-open c = sleeps_kept_after

pub returns-clause-ended : goal.returns-clause-ended
returns-clause-ended c = ended_found
