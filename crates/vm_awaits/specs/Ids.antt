-- Where the leaves of each id stand.
use Rattle.std.specs.Prelude.{◌≡◌, ℕ, nat_eq, bytes_eq, Bool, false, List, [], ◌∷◌, ◌++◌, Option, Some, None, if◌then◌else◌}
use Rattle.std.specs.HashMap.{get}
use Rattle.journal_model.specs.declared.notification.NotificationId.{NotificationId}
use Rattle.journal_model.specs.declared.notification.NotificationId.TheVariants.{CompletionId, SignalId, SignalName}
use Rattle.journal_model.specs.Notification.{same_id}
use Rattle.vm_flat_trees.specs.declared.node.Kind.{Kind}
use Rattle.vm_flat_trees.specs.declared.node.Kind.TheVariants as kinds
use Rattle.vm_flat_trees.specs.declared.node.FlatNode.{FlatNode}
use Rattle.vm_flat_trees.specs.NotificationRecipients.{waits_for}
use Rattle.vm_flat_trees.specs.Places.{places_in, places_where}
use Rattle.attempt_model.specs.Results.{Slots, slot_of}
use Rattle.vm_awaits.specs.declared.ids.IdLeaves.{IdLeaves}

abbrev pub Places : Type 0
Places = NotificationId → List ℕ

abbrev pub no_places : Places
no_places id = []

abbrev pub leaves_in : IdLeaves → Places
leaves_in leaves (CompletionId n) = places_in (get nat_eq leaves.completions n)
leaves_in leaves (SignalId n) = places_in (get nat_eq leaves.signals n)
leaves_in leaves (SignalName name) = places_in (get bytes_eq leaves.names name)

-- one leaf more, of this id
abbrev pub with_leaf : NotificationId → ℕ → Places → Places
with_leaf own place places id = if same_id own id then places id ++ place ∷ [] else places id

-- of what a handle stands for, if it does
abbrev pub with_slot : Option NotificationId → ℕ → Places → Places
with_slot None place places id = places id
with_slot (Some own) place places id = with_leaf own place places id

-- of a node
abbrev pub with_node : Slots → Kind → ℕ → Places → Places
with_node slots (kinds.Leaf handle) place places id = with_slot (slot_of slots handle) place places id
with_node slots _ place places id = places id

-- whether a node is a leaf whose handle passes a test
abbrev pub passes : (test : ℕ → Bool) → Kind → Bool
passes test (kinds.Leaf handle) = test handle
passes test _ = false

-- it tells where the leaves of each id stand among nodes
abbrev pub FindsLeaves : Slots → List FlatNode → IdLeaves → Type 0
FindsLeaves slots nodes leaves = (id : NotificationId) → leaves_in leaves id ≡ places_where (waits_for slots id) 0 nodes
