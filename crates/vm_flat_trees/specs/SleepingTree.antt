-- What is awaited: a tree that sleeps, whose leaves tell what they stand for and what they have come to.
use Rattle.std.specs.Prelude.{ℕ, Bool, true, false, if◌then◌else◌, List, [], ◌∷◌, Option, Some, None}
use Rattle.journal_model.specs.declared.notification.NotificationId.{NotificationId}
use Rattle.journal_model.specs.AwaitTree.{AwaitState, Pending, AwaitTree, is_awake, is_completed, map_leaves}
use Rattle.journal_model.specs.PrunedTrees.{pruned}
use Rattle.attempt_model.specs.Results.{Slots, slot_of}
use Rattle.vm_flat_trees.specs.declared.node.FlatNode.{FlatNode}
use Rattle.vm_flat_trees.specs.NotificationRecipients.{is_for}
use Rattle.vm_flat_trees.specs.NotificationDelivery.{ways_of}
use Rattle.vm_flat_trees.specs.Flat.{read_back}

-- a leaf: its handle, what this stands for, and what has come of it
pub record AwaitedLeaf : Type 0 where
  pub handle : ℕ
  pub id : Option NotificationId
  pub state : AwaitState

abbrev pub handle_in : AwaitedLeaf → ℕ
handle_in leaf = leaf.handle

abbrev pub state_in : AwaitedLeaf → AwaitState
state_in leaf = leaf.state

-- a tree that sleeps, or nothing: of one that is awake nothing is kept but that it is
abbrev pub Awaited : Type 0
Awaited = Option (AwaitTree AwaitedLeaf)

abbrev pub awaited : AwaitTree AwaitedLeaf → Awaited
awaited tree = if is_awake tree state_in then None else Some tree

abbrev pub has_woken : Awaited → Bool
has_woken None = true
has_woken (Some tree) = false

-- a leaf of a handle that stands for what the slots say
abbrev pub leaf_over : Slots → (ℕ → AwaitState) → ℕ → AwaitedLeaf
leaf_over slots leaves handle = record { handle = handle; id = slot_of slots handle; state = leaves handle }

-- a tree over handles that have come to these states
abbrev pub awaited_over : Slots → (ℕ → AwaitState) → AwaitTree ℕ → Awaited
awaited_over slots leaves tree = awaited (map_leaves (leaf_over slots leaves) tree)

-- a leaf when this has come for an id: one that was completed before keeps what it came to
abbrev pub heard : NotificationId → AwaitState → AwaitedLeaf → AwaitedLeaf
heard id state leaf = record leaf { state = if is_completed leaf.state then leaf.state else (if is_for id leaf.id then state else Pending) }

-- what is awaited then
abbrev pub delivered : NotificationId → AwaitState → Awaited → Awaited
delivered id state None = None
delivered id state (Some tree) = awaited (map_leaves (heard id state) tree)

-- the summed lengths of the ways from the leaves of an id to the root, leaf and root counted
abbrev pub ways_for : NotificationId → Awaited → ℕ
ways_for id None = 0
ways_for id (Some tree) = ways_of (λ leaf. is_for id leaf.id) tree

-- what a tree that sleeps still waits for: its handles, without what is completed
abbrev pub still_waits : AwaitTree AwaitedLeaf → AwaitTree ℕ
still_waits tree = map_leaves handle_in (pruned tree state_in)

-- what is awaited, read from its flat vector
abbrev pub leaf_read : Slots → ℕ → AwaitState → AwaitedLeaf
leaf_read slots handle state = record { handle = handle; id = slot_of slots handle; state = state }

abbrev pub first_read : List (AwaitTree AwaitedLeaf) → Awaited
first_read [] = None
first_read (tree ∷ trees) = Some tree

abbrev pub awaited_in : Slots → List FlatNode → (is_awake : Bool) → Awaited
awaited_in slots nodes true = None
awaited_in slots nodes false = first_read (read_back (leaf_read slots) nodes)
