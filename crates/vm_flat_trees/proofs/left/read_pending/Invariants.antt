use Rattle.std.proofs.Common.{◌≡◌, ◌≤◌, drop, map, length}
use Rattle.journal_model.specs.Future.{tree_of}
use Rattle.vm_flat_trees.specs.Flat.{read_pending}
use Rattle.vm_flat_trees.proofs.left.read_pending.Given as goal

abbrev pub invariant-loop-place : goal.invariant-loop-place
invariant-loop-place l = (map tree_of l.futures.items ≡ read_pending (drop l.place l.nodes)) × (l.place ≤ length l.nodes)

abbrev pub decreases-loop-place : goal.decreases-loop-place
decreases-loop-place l = l.place
