-- What a delivery to one leaf leaves.
use Rattle.std.specs.Prelude.{◌≡◌, ℕ, ◌<◌, ◌≤◌, Bool, true, false, List, map, length, Some, slice_get, slice_set}
use Rattle.journal_model.specs.AwaitTree.{AwaitState, Pending}
use Rattle.vm_flat_trees.specs.declared.node.FlatNode.{FlatNode}
use Rattle.vm_flat_trees.specs.Flat.{node_state, is_awake_flat}
use Rattle.vm_flat_trees.specs.ChildCounts.{AreNodesSettled, IsOrdered, bare, come_to, is_leaf}

-- a leaf stands at this place that waits
pub record IsPendingLeaf (nodes : List FlatNode) (place : ℕ) : Type 0 where
  pub node : FlatNode
  pub there : slice_get nodes place ≡ Some node
  pub leaf : is_leaf node.kind ≡ true
  pub waits : node_state node ≡ Pending

-- a vector that sleeps
pub record Sleeps (nodes : List FlatNode) : Type 0 where
  pub settled : AreNodesSettled nodes
  pub ordered : IsOrdered nodes
  pub asleep : is_awake_flat nodes ≡ false

-- the leaf at this place has come to a state, and each node counts its children again
pub record Climbs (state : AwaitState) (before : List FlatNode) (leaf : ℕ) (after : List FlatNode) (is_awake : Bool) : Type 0 where
  pub settled : AreNodesSettled after
  pub bare_is : (node : FlatNode) → slice_get before leaf ≡ Some node → map bare after ≡ map bare (slice_set before leaf (come_to state node))
  pub awake : is_awake ≡ is_awake_flat after

-- the node at this place is another one
abbrev pub ChangesNode : (change : FlatNode → FlatNode) → (before : List FlatNode) → (place : ℕ) → (after : List FlatNode) → (new : FlatNode) → Type 0
ChangesNode change before place after new =
    (node : FlatNode) × (slice_get before place ≡ Some node) × (new ≡ change node) × (after ≡ slice_set before place new)

-- a node stands at this place that can hear of a child
abbrev pub HasRoom : List FlatNode → (place : ℕ) → Type 0
HasRoom nodes place =
    (node : FlatNode) → slice_get nodes place ≡ Some node → (0 < node.counts.pending) × (node.counts.succeeded ≤ length nodes) × (node.counts.failed ≤ length nodes)
