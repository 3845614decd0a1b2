-- Proved in `Heard`, `Growing` and `Leaves`.
use Rattle.due_laws.proofs.Growing.{awake_grows}
use Rattle.due_laws.proofs.Heard.{awake_is_due, heard_is_within}
use Rattle.due_laws.proofs.Leaves.{only_awaited_wake}
use Rattle.due_laws.proofs.awake_is_due.Goals as goal

pub returns-clause-is_due : goal.returns-clause-is_due
returns-clause-is_due c = awake_is_due

pub returns-clause-grows : goal.returns-clause-grows
returns-clause-grows c = awake_grows

pub returns-clause-within : goal.returns-clause-within
returns-clause-within c = heard_is_within

pub returns-clause-awaited : goal.returns-clause-awaited
returns-clause-awaited c = only_awaited_wake
