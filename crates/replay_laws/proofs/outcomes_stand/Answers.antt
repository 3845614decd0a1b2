-- The laws are proved in `Flying`.
use Rattle.replay_laws.proofs.OutcomesInFlight.{outcomes_begin, outcomes_stay, outcomes_are_new, others_follow, outcomes_are_open}
use Rattle.replay_laws.proofs.outcomes_stand.Goals as goal

pub returns-clause-begins : goal.returns-clause-begins
returns-clause-begins c = outcomes_begin

pub returns-clause-stays : goal.returns-clause-stays
returns-clause-stays c = outcomes_stay

pub returns-clause-sends : goal.returns-clause-sends
returns-clause-sends c = outcomes_are_new

pub returns-clause-others : goal.returns-clause-others
returns-clause-others c = others_follow

pub returns-clause-opened : goal.returns-clause-opened
returns-clause-opened c = outcomes_are_open
