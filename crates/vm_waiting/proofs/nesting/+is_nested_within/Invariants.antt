use Rattle.std.proofs.Common.{◌≡◌, ◌-◌, drop, map}
use Rattle.journal_model.specs.Future.{trees_from, tree_of}
use Rattle.vm_waiting.specs.SuspensionFrames.{are_nested_within}
use Rattle.vm_waiting.proofs.nesting.+is_nested_within.Given as goal

abbrev pub decreases-is_nested_within : goal.decreases-is_nested_within
decreases-is_nested_within l = l.levels

abbrev pub invariant-loop-child : goal.invariant-loop-child
invariant-loop-child l = are_nested_within (l.levels - 1) (trees_from (map tree_of (drop l.child-index l.children))) ≡ are_nested_within (l.levels - 1) (trees_from (map tree_of l.children))
