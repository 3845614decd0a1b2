-- Vectors of nodes whose counts are those of their children, also where one child's news is still on its way up.
use Rattle.std.specs.Prelude.{◌≡◌, ℕ, zero, suc, ◌+◌, ◌-◌, ◌<◌, ◌==◌, Bool, true, false, if◌then◌else◌, List, [], ◌∷◌, Option, Some, None, slice_get}
use Rattle.journal_model.specs.AwaitTree.{AwaitState, Pending, Succeeded, Failed}
use Rattle.vm_flat_trees.specs.declared.node.Kind.{Kind}
use Rattle.vm_flat_trees.specs.declared.node.Kind.TheVariants as kinds
use Rattle.vm_flat_trees.specs.declared.node.Counts.{Counts}
use Rattle.vm_flat_trees.specs.declared.node.FlatNode.{FlatNode}
use Rattle.vm_flat_trees.specs.Counts.{no_counts, child_counted, counts_of}
use Rattle.vm_flat_trees.specs.Flat.{node_state}

-- whether this parent stands at this place
abbrev pub is_at : (place : ℕ) → (parent : Option ℕ) → Bool
is_at place None = false
is_at place (Some parent) = parent == place

-- what the nodes have come to whose parent stands at this place, beside others
abbrev pub tally : (place : ℕ) → List FlatNode → Counts → Counts
tally place [] counts = counts
tally place (node ∷ nodes) counts = if is_at place node.parent then child_counted (node_state node) (tally place nodes counts) else tally place nodes counts

-- what a node counts of other nodes
abbrev pub inner_counts : Kind → Counts → Counts
inner_counts (kinds.Leaf handle) counts = no_counts
inner_counts _ counts = counts

-- and what it counts that no other node tells
abbrev pub leaf_counts : Kind → Counts → Counts
leaf_counts (kinds.Leaf handle) counts = counts
leaf_counts _ counts = no_counts

-- a node without what other nodes tell of it
abbrev pub bare : FlatNode → FlatNode
bare node = record { kind = node.kind; parent = node.parent; counts = leaf_counts node.kind node.counts }

-- one that was pending has come to this
abbrev pub Moves : AwaitState → Counts → Counts → Type 0
Moves Pending before after = before ≡ after
Moves Succeeded before after = (before.pending ≡ after.pending + 1) × (after.succeeded ≡ before.succeeded + 1) × (after.failed ≡ before.failed)
Moves Failed before after = (before.pending ≡ after.pending + 1) × (after.succeeded ≡ before.succeeded) × (after.failed ≡ before.failed + 1)

-- what a node at this place has not heard of yet, where the node at `next` has not heard that a child has come to this
abbrev pub unheard : (next : Option ℕ) → AwaitState → (place : ℕ) → AwaitState
unheard next came place = if is_at place next then came else Pending

-- each node counts its children, the one at `next` but for what it has not heard of; the first of these nodes stands at this place
abbrev pub Settling : (next : Option ℕ) → (came : AwaitState) → (place : ℕ) → List FlatNode → Type 0
Settling next came place [] = Unit {0}
Settling next came place (node ∷ nodes) = Moves (unheard next came place) (inner_counts node.kind node.counts) (tally place nodes no_counts) × Settling next came (place + 1) nodes

-- each node counts its children
abbrev pub AreNodesSettled : List FlatNode → Type 0
AreNodesSettled nodes = Settling None Pending 0 nodes

-- a parent stands before its children, and only the first node has none
abbrev pub StandsBefore : Option ℕ → (place : ℕ) → Type 0
StandsBefore None place = place ≡ 0
StandsBefore (Some parent) place = parent < place

abbrev pub IsOrdered : List FlatNode → Type 0
IsOrdered nodes = (place : ℕ) (node : FlatNode) → slice_get nodes place ≡ Some node → StandsBefore node.parent place

-- the way from a place up to the root has so many nodes
abbrev pub IsWay : List FlatNode → (next : Option ℕ) → (many : ℕ) → Type 0
IsWay nodes None many = many ≡ 0
IsWay nodes (Some place) zero = ⊥
IsWay nodes (Some place) (suc many) = (node : FlatNode) × (slice_get nodes place ≡ Some node) × IsWay nodes node.parent many

-- a child that was pending has come to this
abbrev pub moved : AwaitState → Counts → Counts
moved Pending counts = counts
moved Succeeded counts = record { pending = counts.pending - 1; succeeded = counts.succeeded + 1; failed = counts.failed }
moved Failed counts = record { pending = counts.pending - 1; succeeded = counts.succeeded; failed = counts.failed + 1 }

abbrev pub visited : AwaitState → FlatNode → FlatNode
visited came node = record { kind = node.kind; parent = node.parent; counts = moved came node.counts }

-- a leaf that has come to this
abbrev pub come_to : AwaitState → FlatNode → FlatNode
come_to state node = record { kind = node.kind; parent = node.parent; counts = counts_of (state ∷ []) }

abbrev pub is_leaf : Kind → Bool
is_leaf (kinds.Leaf handle) = true
is_leaf _ = false
