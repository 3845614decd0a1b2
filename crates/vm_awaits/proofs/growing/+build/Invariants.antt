use Rattle.std.proofs.Common.{map, take}
use Rattle.journal_model.specs.Future.{tree_of}
use Rattle.attempt_model.specs.Results.{handle_state}
use Rattle.vm_awaits.specs.ReadyViews.{ready_in}
use Rattle.vm_flat_trees.specs.Flat.{size_of}
use Rattle.vm_flat_trees.proofs.Growing.{Grown}
use Rattle.vm_awaits.proofs.growing.+build.Given as goal

abbrev pub decreases-build : goal.decreases-build
decreases-build l = size_of (tree_of l.future.now)

abbrev pub invariant-loop-child : goal.invariant-loop-child
invariant-loop-child l = Grown (handle_state l.slots (ready_in l.ready)) l.fn.nodes.items l.kind l.parent (map tree_of (take l.child-index l.children)) l.nodes.items l.counts
