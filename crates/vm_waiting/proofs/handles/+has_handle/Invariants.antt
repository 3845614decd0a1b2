use Rattle.std.proofs.Common.{◌≡◌, drop, map}
use Rattle.journal_model.specs.Future.{trees_from, tree_of}
use Rattle.protocol_trees.proofs.Forests.{tree_size}
use Rattle.vm_waiting.specs.SuspensionFrames.{some_holds_a_leaf}
use Rattle.vm_waiting.proofs.handles.+has_handle.Given as goal

abbrev pub decreases-has_handle : goal.decreases-has_handle
decreases-has_handle l = tree_size (tree_of l.future.now)

abbrev pub invariant-loop-child : goal.invariant-loop-child
invariant-loop-child l = some_holds_a_leaf (trees_from (map tree_of (drop l.child-index l.children))) ≡ some_holds_a_leaf (trees_from (map tree_of l.children))
