-- Proved in `Rows` and in `Outcomes`.
use Rattle.due_laws.proofs.Rows.{pieces_are_rows, all_known_stays}
use Rattle.due_laws.proofs.Outcomes.{outcomes_are_read}
use Rattle.due_laws.proofs.pieces_are_rows.Goals as goal

pub returns-clause-rows : goal.returns-clause-rows
returns-clause-rows c = pieces_are_rows

pub returns-clause-known : goal.returns-clause-known
returns-clause-known c = all_known_stays

pub returns-clause-outcomes : goal.returns-clause-outcomes
returns-clause-outcomes c = outcomes_are_read
