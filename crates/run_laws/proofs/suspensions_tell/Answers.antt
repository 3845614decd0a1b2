-- All are proved in `Suspending`.
use Rattle.run_laws.proofs.Suspending.{tells_tree, tells_leaf, tells_ids}
use Rattle.run_laws.proofs.suspensions_tell.Goals as goal

pub returns : goal.returns
returns c = record { trees = tells_tree; leaves = tells_leaf; lists = tells_ids }
