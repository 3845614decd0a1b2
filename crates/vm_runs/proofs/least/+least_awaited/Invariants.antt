use Rattle.std.proofs.Common.{◌&&◌, map, take}
use Rattle.journal_model.specs.Future.{tree_of, trees_from}
use Rattle.body_laws.specs.Bodies.{some_has_handle}
use Rattle.vm_flat_trees.specs.Flat.{size_of}
use Rattle.vm_runs.specs.Runs.{IsLeast, has_run}
use Rattle.vm_runs.proofs.least.+least_awaited.Given as goal

abbrev pub decreases-least_awaited : goal.decreases-least_awaited
decreases-least_awaited l = size_of (tree_of l.awaited.now)

-- the least of the children so far
abbrev pub invariant-loop-child : goal.invariant-loop-child
invariant-loop-child l = IsLeast (λ n. has_run l.fn.executing l.fn.table.entries n && some_has_handle n (trees_from (map tree_of (take l.child-index l.children)))) l.least
