-- Both are proved in `Handing`.
use Rattle.due_laws.proofs.InputParts.{rows_are_read, rows_tell}
use Rattle.due_laws.proofs.rows_are_read.Goals as goal

pub returns-clause-steps : goal.returns-clause-steps
returns-clause-steps c = rows_are_read

pub returns-clause-tells : goal.returns-clause-tells
returns-clause-tells c = rows_tell
