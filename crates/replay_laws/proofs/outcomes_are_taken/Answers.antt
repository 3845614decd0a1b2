-- The law is proved in `Outcomes`.
use Rattle.replay_laws.proofs.Outcomes.{outcomes_are_taken}
use Rattle.replay_laws.proofs.outcomes_are_taken.Goals as goal

pub returns : goal.returns
returns c = outcomes_are_taken
