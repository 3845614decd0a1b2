use Rattle.std.proofs.Common.{◌≡◌, true}
use Rattle.journal_model.specs.AwaitTree.{is_completed}
use Rattle.vm_flat_trees.specs.NotificationRecipients.{waits_for}
use Rattle.vm_flat_trees.specs.Counts.{state_meant}
use Rattle.vm_awaits.proofs.Passing.{Passing}
use Rattle.vm_awaits.proofs.telling.tell_in_passing.Given as goal

abbrev pub invariant-loop-place : goal.invariant-loop-place
invariant-loop-place l = (done : is_completed (state_meant l.state) ≡ true) → Passing (waits_for l.slots l.id) l.fn.nodes (state_meant l.state) done l.place l.nodes l.visits
