-- Both are proved in `States`.
use Rattle.run_laws.proofs.States.{states_text, starts_text}
use Rattle.run_laws.proofs.keys_are_text.Goals as goal

pub returns-clause-states : goal.returns-clause-states
returns-clause-states c = states_text

pub returns-clause-starts : goal.returns-clause-starts
returns-clause-starts c = starts_text
