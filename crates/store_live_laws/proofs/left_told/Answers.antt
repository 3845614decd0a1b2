-- The laws are proved in `Left`.
use Rattle.store_live_laws.proofs.Left.{left_told, part_told}
use Rattle.store_live_laws.proofs.left_told.Goals as goal

pub returns-clause-left : goal.returns-clause-left
returns-clause-left c = left_told

pub returns-clause-part : goal.returns-clause-part
returns-clause-part c = part_told
