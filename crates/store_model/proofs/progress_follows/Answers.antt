-- Both laws are proved in `Following`.
use Rattle.store_model.proofs.Following.{follows, ticks}
use Rattle.store_model.proofs.progress_follows.Goals as goal

pub returns-clause-by_own_events : goal.returns-clause-by_own_events
returns-clause-by_own_events c = follows

pub returns-clause-by_ticks : goal.returns-clause-by_ticks
returns-clause-by_ticks c = ticks
