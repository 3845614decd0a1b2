-- The laws are proved in `Living`.
use Rattle.replay_laws.proofs.LiveBodies.{executor_begins, executor_stays}
use Rattle.replay_laws.proofs.executors_live.Goals as goal

pub returns-clause-begins : goal.returns-clause-begins
returns-clause-begins c = executor_begins

pub returns-clause-stays : goal.returns-clause-stays
returns-clause-stays c = executor_stays
