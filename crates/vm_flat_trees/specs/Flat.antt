-- Trees as vectors of nodes in preorder.
use Rattle.std.specs.Prelude.{ℕ, ◌+◌, Bool, ◌||◌, if◌then◌else◌, List, [], ◌∷◌, ◌++◌, take, drop, Option, Some, None}
use Rattle.std.specs.List.{list_any}
use Rattle.journal_model.specs.AwaitTree as Trees
use Rattle.journal_model.specs.AwaitTree.{AwaitState, Pending, Succeeded, Failed, AwaitTree, AwaitTrees, Single, Combined, no_trees, and_trees, is_completed}
use Rattle.journal_model.specs.Future.{trees_from}
use Rattle.vm_flat_trees.specs.declared.node.Kind.{Kind}
use Rattle.vm_flat_trees.specs.declared.node.Kind.TheVariants as kinds
use Rattle.vm_flat_trees.specs.declared.node.Counts.{Counts}
use Rattle.vm_flat_trees.specs.declared.node.FlatNode.{FlatNode}
use Rattle.vm_flat_trees.specs.Counts.{counts_of, state_by, is_ended, node_kind, lowered_kind}

-- how many nodes a tree has
abbrev mutual
  pub size_of : {Leaf : Type 0} → AwaitTree Leaf → ℕ
  size_of (Single leaf) = 1
  size_of (Combined combinator trees) = 1 + sizes_of trees

  pub sizes_of : {Leaf : Type 0} → AwaitTrees Leaf → ℕ
  sizes_of no_trees = 0
  sizes_of (and_trees tree trees) = size_of tree + sizes_of trees

-- what a tree has come to, by the counts at each of its nodes
abbrev mutual
  pub reckoned : {Leaf : Type 0} → AwaitTree Leaf → (Leaf → AwaitState) → AwaitState
  reckoned (Single leaf) leaves = leaves leaf
  reckoned (Combined combinator trees) leaves = state_by (node_kind combinator) (counts_of (all_reckoned trees leaves))

  pub all_reckoned : {Leaf : Type 0} → AwaitTrees Leaf → (Leaf → AwaitState) → List AwaitState
  all_reckoned no_trees leaves = []
  all_reckoned (and_trees tree trees) leaves = reckoned tree leaves ∷ all_reckoned trees leaves

-- the nodes of a tree whose root stands at this place
abbrev mutual
  pub flat_at : {Leaf : Type 0} → (handle : Leaf → ℕ) → (leaves : Leaf → AwaitState) → (place : ℕ) → (parent : Option ℕ) → AwaitTree Leaf → List FlatNode
  flat_at handle leaves place parent (Single leaf) = record { kind = kinds.Leaf (handle leaf); parent = parent; counts = counts_of (leaves leaf ∷ []) } ∷ []
  flat_at handle leaves place parent (Combined combinator trees) =
      record { kind = node_kind combinator; parent = parent; counts = counts_of (all_reckoned trees leaves) } ∷ flats_at handle leaves (place + 1) place trees

  -- of trees under one parent, the first of which stands at this place
  pub flats_at : {Leaf : Type 0} → (handle : Leaf → ℕ) → (leaves : Leaf → AwaitState) → (place parent : ℕ) → AwaitTrees Leaf → List FlatNode
  flats_at handle leaves place parent no_trees = []
  flats_at handle leaves place parent (and_trees tree trees) =
      flat_at handle leaves place (Some parent) tree ++ flats_at handle leaves (place + size_of tree) parent trees

-- the flat vector of a tree over handles whose leaves have these states
abbrev pub flat_of : AwaitTree ℕ → (ℕ → AwaitState) → List FlatNode
flat_of tree leaves = flat_at (λ handle. handle) leaves 0 None tree

-- what a node has come to
abbrev pub node_state : FlatNode → AwaitState
node_state node = state_by node.kind node.counts

abbrev pub has_ended : FlatNode → Bool
has_ended node = is_ended node.kind node.counts

abbrev pub root_state : List FlatNode → AwaitState
root_state [] = Pending
root_state (node ∷ nodes) = node_state node

-- whether a flat tree is awake
abbrev pub is_awake_flat : List FlatNode → Bool
is_awake_flat nodes = is_completed (root_state nodes) || list_any has_ended nodes

-- how many children a node has
abbrev pub all_counted : Counts → ℕ
all_counted counts = counts.pending + (counts.succeeded + counts.failed)

abbrev pub combined : Kind → AwaitTrees ℕ → AwaitTree ℕ
combined (kinds.Leaf handle) trees = Single handle
combined kinds.Unknown trees = Combined Trees.Unknown trees
combined kinds.FirstCompleted trees = Combined Trees.FirstCompleted trees
combined kinds.AllCompleted trees = Combined Trees.AllCompleted trees
combined kinds.FirstSucceededOrAllFailed trees = Combined Trees.FirstSucceededOrAllFailed trees
combined kinds.AllSucceededOrFirstFailed trees = Combined Trees.AllSucceededOrFirstFailed trees
combined (kinds.AtLeast required) trees = Combined (Trees.AtLeast required) trees

-- how many trees behind a node are its children, of which it has so many
abbrev pub children_in : Kind → (many : ℕ) → ℕ
children_in (kinds.Leaf handle) many = 0
children_in _ many = many

-- a node over handles before the trees that were read behind it: so many of these are its children
abbrev pub read_node : Kind → (many : ℕ) → List (AwaitTree ℕ) → List (AwaitTree ℕ)
read_node kind many trees = combined kind (trees_from (take (children_in kind many) trees)) ∷ drop (children_in kind many) trees

-- trees under one parent
abbrev pub trees_in : {Leaf : Type 0} → List (AwaitTree Leaf) → AwaitTrees Leaf
trees_in [] = no_trees
trees_in (tree ∷ trees) = and_trees tree (trees_in trees)

-- a node before the trees that were read behind it: so many of these are its children
abbrev pub node_over : {Leaf : Type 0} → Trees.Combinator → (many : ℕ) → List (AwaitTree Leaf) → List (AwaitTree Leaf)
node_over combinator many trees = Combined combinator (trees_in (take many trees)) ∷ drop many trees

-- a node before these trees, where a leaf is made of its handle and of what it has come to
abbrev pub node_before : {Leaf : Type 0} → (leaf : ℕ → AwaitState → Leaf) → Kind → Counts → List (AwaitTree Leaf) → List (AwaitTree Leaf)
node_before leaf (kinds.Leaf handle) counts trees = Single (leaf handle (state_by (kinds.Leaf handle) counts)) ∷ trees
node_before leaf kinds.Unknown counts trees = node_over Trees.Unknown (all_counted counts) trees
node_before leaf kinds.FirstCompleted counts trees = node_over Trees.FirstCompleted (all_counted counts) trees
node_before leaf kinds.AllCompleted counts trees = node_over Trees.AllCompleted (all_counted counts) trees
node_before leaf kinds.FirstSucceededOrAllFailed counts trees = node_over Trees.FirstSucceededOrAllFailed (all_counted counts) trees
node_before leaf kinds.AllSucceededOrFirstFailed counts trees = node_over Trees.AllSucceededOrFirstFailed (all_counted counts) trees
node_before leaf (kinds.AtLeast required) counts trees = node_over (Trees.AtLeast required) (all_counted counts) trees

-- the trees that a list of nodes holds, read from its end
abbrev pub read_back : {Leaf : Type 0} → (leaf : ℕ → AwaitState → Leaf) → List FlatNode → List (AwaitTree Leaf)
read_back leaf [] = []
read_back leaf (node ∷ nodes) = node_before leaf node.kind node.counts (read_back leaf nodes)

-- a node before the trees that were read behind it, but where it is completed: one that waits has as many children there as it has
-- pending ones
abbrev pub pending_before : FlatNode → List (AwaitTree ℕ) → List (AwaitTree ℕ)
pending_before node trees = if is_completed (node_state node) then trees else read_node (lowered_kind node.kind node.counts) node.counts.pending trees

-- the trees without completed nodes
abbrev pub read_pending : List FlatNode → List (AwaitTree ℕ)
read_pending [] = []
read_pending (node ∷ nodes) = pending_before node (read_pending nodes)
