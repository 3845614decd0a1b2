use Rattle.std.proofs.Common.{◌≡◌, true}
use Rattle.journal_model.specs.AwaitTree.{is_completed}
use Rattle.vm_flat_trees.specs.Counts.{state_meant}
use Rattle.vm_flat_trees.proofs.Sending.{Sending}
use Rattle.vm_flat_trees.proofs.delivering.deliver_to.Given as goal

abbrev pub invariant-loop-place : goal.invariant-loop-place
invariant-loop-place l = (done : is_completed (state_meant l.state) ≡ true) → Sending l.fn.nodes l.places (state_meant l.state) done l.place-index l.nodes l.visits
