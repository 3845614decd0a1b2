-- All are proved in `Kept`.
use Rattle.store_live_laws.proofs.Kept.{rows_are_not_heard, changed_covers, due_from_rows}
use Rattle.store_live_laws.proofs.kept_rows_tell.Goals as goal

pub returns-clause-not_heard : goal.returns-clause-not_heard
returns-clause-not_heard c = rows_are_not_heard

pub returns-clause-covers : goal.returns-clause-covers
returns-clause-covers c = changed_covers

pub returns-clause-due : goal.returns-clause-due
returns-clause-due c = due_from_rows
