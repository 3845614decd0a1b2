use Rattle.std.proofs.Common.{map, take}
use Rattle.journal_model.specs.AwaitTree.{Combined}
use Rattle.journal_model.specs.Future.{tree_of, trees_from}
use Rattle.vm_flat_trees.specs.Flat.{size_of}
use Rattle.vm_flat_trees.specs.FutureRoots.{kind_combinator}
use Rattle.vm_progress.specs.UncompletedAwaits.{IsGreatest}
use Rattle.vm_progress.proofs.Greatest.{some_unfinished}
use Rattle.vm_progress.proofs.unfinished.+last_unfinished.Given as goal

abbrev pub decreases-last_unfinished : goal.decreases-last_unfinished
decreases-last_unfinished l = size_of (tree_of l.awaited.now)

-- the greatest of the children so far
abbrev pub invariant-loop-child : goal.invariant-loop-child
invariant-loop-child l = IsGreatest (some_unfinished l.fn.runs.table (map tree_of (take l.child-index l.children))) l.last
