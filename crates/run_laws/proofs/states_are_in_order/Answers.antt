-- Both are proved in `States`.
use Rattle.run_laws.proofs.States.{states_ordered, starts_ordered}
use Rattle.run_laws.proofs.states_are_in_order.Goals as goal

pub returns-clause-states : goal.returns-clause-states
returns-clause-states c = states_ordered

pub returns-clause-starts : goal.returns-clause-starts
returns-clause-starts c = starts_ordered
