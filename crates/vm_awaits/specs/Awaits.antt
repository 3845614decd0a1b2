-- Which tree over handles a flat vector is of.
use Rattle.std.specs.Prelude.{◌≡◌, ℕ, Bool, false, List, Option}
use Rattle.std.specs.Option.{ForSome}
use Rattle.journal_model.specs.declared.notification.NotificationId.{NotificationId}
use Rattle.journal_model.specs.AwaitTree.{AwaitState, AwaitTree, is_awake}
use Rattle.attempt_model.specs.Results.{Slots}
use Rattle.vm_flat_trees.specs.declared.node.FlatNode.{FlatNode}
use Rattle.vm_flat_trees.specs.NotificationRecipients.{waits_for}
use Rattle.vm_flat_trees.specs.NotificationDelivery.{places_of}
use Rattle.vm_flat_trees.specs.Flat.{flat_of}
use Rattle.vm_awaits.specs.declared.ids.IdLeaves.{IdLeaves}
use Rattle.vm_awaits.specs.Ids.{leaves_in}

-- of this tree, whose leaves have come to these states; the nodes of one that is awake may be told in part
pub record AwaitsTree (slots : Slots) (nodes : List FlatNode) (index : Option IdLeaves) (awake : Bool) (tree : AwaitTree ℕ) (leaves : ℕ → AwaitState) : Type 0 where
  pub awake_is : awake ≡ is_awake tree leaves
  pub nodes_are : awake ≡ false → nodes ≡ flat_of tree leaves
  -- where the leaves of each id stand, once that is looked up
  pub places_are : ForSome index (λ found. (id : NotificationId) → leaves_in found id ≡ places_of (waits_for slots id) tree)

-- of some tree
pub record AwaitsSome (slots : Slots) (nodes : List FlatNode) (index : Option IdLeaves) (awake : Bool) : Type 0 where
  pub tree : AwaitTree ℕ
  pub leaves : ℕ → AwaitState
  pub awaits : AwaitsTree slots nodes index awake tree leaves
