use Rattle.std.proofs.Common.{◌≡◌, take}
use Rattle.journal_model.specs.declared.notification.NotificationId.{NotificationId}
use Rattle.vm_flat_trees.specs.NotificationRecipients.{waits_for}
use Rattle.vm_flat_trees.specs.Places.{places_where}
use Rattle.vm_awaits.specs.Ids.{leaves_in}
use Rattle.vm_awaits.proofs.flat.leaves_of.Given as goal

abbrev pub invariant-loop-place : goal.invariant-loop-place
invariant-loop-place l = (id : NotificationId) → leaves_in l.leaves id ≡ places_where (waits_for l.slots id) 0 (take l.place l.nodes)
