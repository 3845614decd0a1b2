use Rattle.std.proofs.Common.{◌≡◌, true}
use Rattle.journal_model.specs.AwaitTree.{is_completed}
use Rattle.vm_flat_trees.specs.Counts.{state_meant}
use Rattle.vm_flat_trees.proofs.Upward.{Climbing, reach}
use Rattle.vm_flat_trees.proofs.climbing.climb.Given as goal

abbrev pub invariant-climbing : goal.invariant-climbing
invariant-climbing l = Climbing l.fn.nodes l.leaf (state_meant l.fn.state) l.nodes l.next (state_meant l.came) l.visits l.is_awake × (is_completed (state_meant l.came) ≡ true)

abbrev pub decreases-climbing : goal.decreases-climbing
decreases-climbing l = reach l.next
