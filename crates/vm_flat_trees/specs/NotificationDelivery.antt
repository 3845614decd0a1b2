-- A delivery to all leaves of one id.
use Rattle.std.specs.Prelude.{◌≡◌, ℕ, ◌+◌, ◌≤◌, Bool, true, false, if◌then◌else◌, List, [], ◌∷◌, ◌++◌, map, Some, ◌⊎◌, slice_get}
use Rattle.journal_model.specs.AwaitTree.{AwaitState, Pending, AwaitTree, AwaitTrees, Single, Combined, no_trees, and_trees, is_awake, is_completed}
use Rattle.journal_model.specs.PrunedTrees.{earlier_or_later}
use Rattle.vm_flat_trees.specs.declared.node.FlatNode.{FlatNode}
use Rattle.vm_flat_trees.specs.Flat.{size_of, flat_of, node_state}
use Rattle.vm_flat_trees.specs.ChildCounts.{IsWay, is_leaf}
use Rattle.vm_flat_trees.specs.LeafDelivery.{Climbs}

-- the leaves that pass a test: where each stands, and how many nodes its way to the root has, itself and the root counted
abbrev mutual
  pub sites : {Leaf : Type 0} → (test : Leaf → Bool) → (place depth : ℕ) → AwaitTree Leaf → List (ℕ × ℕ)
  sites test place depth (Single leaf) = if test leaf then (place, depth) ∷ [] else []
  sites test place depth (Combined combinator trees) = all_sites test (place + 1) (depth + 1) trees

  pub all_sites : {Leaf : Type 0} → (test : Leaf → Bool) → (place depth : ℕ) → AwaitTrees Leaf → List (ℕ × ℕ)
  all_sites test place depth no_trees = []
  all_sites test place depth (and_trees tree trees) = sites test place depth tree ++ all_sites test (place + size_of tree) depth trees

abbrev pub place_at : ℕ × ℕ → ℕ
place_at site = site.0

abbrev pub depth_at : ℕ × ℕ → ℕ
depth_at site = site.1

abbrev pub total : List ℕ → ℕ
total [] = 0
total (number ∷ numbers) = number + total numbers

-- where the leaves stand whose handles pass a test, from the first on
abbrev pub places_of : (test : ℕ → Bool) → AwaitTree ℕ → List ℕ
places_of test tree = map place_at (sites test 0 1 tree)

-- the summed lengths of their ways to the root
abbrev pub ways_of : {Leaf : Type 0} → (test : Leaf → Bool) → AwaitTree Leaf → ℕ
ways_of test tree = total (map depth_at (sites test 0 1 tree))

-- what is brought to handles that pass a test
abbrev pub brought : (test : ℕ → Bool) → AwaitState → ℕ → AwaitState
brought test state handle = if test handle then state else Pending

-- the vector is the flat one of a tree that sleeps, and the places are those of the leaves that pass a test
pub record CanHear (nodes : List FlatNode) (places : List ℕ) (tree : AwaitTree ℕ) (leaves : ℕ → AwaitState) (test : ℕ → Bool) : Type 0 where
  pub flat : nodes ≡ flat_of tree leaves
  pub asleep : is_awake tree leaves ≡ false
  pub places_are : places ≡ places_of test tree

-- of some tree
pub record CanHearOf (nodes : List FlatNode) (places : List ℕ) : Type 0 where
  pub tree : AwaitTree ℕ
  pub leaves : ℕ → AwaitState
  pub test : ℕ → Bool
  pub can : CanHear nodes places tree leaves test

-- these leaves have come to a state, those that were completed before aside
pub record Hears (tree : AwaitTree ℕ) (leaves : ℕ → AwaitState) (test : ℕ → Bool) (state : AwaitState) (after : List FlatNode) (wakes : Bool) (visits : ℕ) : Type 0 where
  pub awake : wakes ≡ is_awake tree (earlier_or_later leaves (brought test state))
  pub flat : wakes ≡ false → after ≡ flat_of tree (earlier_or_later leaves (brought test state))
  pub few : visits ≤ ways_of test tree

abbrev pub Delivers : (before : List FlatNode) → (places : List ℕ) → AwaitState → (after : List FlatNode) → (wakes : Bool) → (visits : ℕ) → Type 0
Delivers before places state after wakes visits =
    (tree : AwaitTree ℕ) (leaves : ℕ → AwaitState) (test : ℕ → Bool) → CanHear before places tree leaves test → Hears tree leaves test state after wakes visits

-- a leaf stands at this place
pub record IsLeafAt (nodes : List FlatNode) (place : ℕ) : Type 0 where
  pub node : FlatNode
  pub there : slice_get nodes place ≡ Some node
  pub leaf : is_leaf node.kind ≡ true

-- a leaf that was completed stays as it is
pub record PassesOver (before : List FlatNode) (place : ℕ) (after : List FlatNode) (wakes : Bool) (visits : ℕ) : Type 0 where
  pub node : FlatNode
  pub there : slice_get before place ≡ Some node
  pub completed : is_completed (node_state node) ≡ true
  pub same : after ≡ before
  pub asleep : wakes ≡ false
  pub one : visits ≡ 1

-- one that waits comes to a state
pub record LeafComesTo (state : AwaitState) (before : List FlatNode) (place : ℕ) (after : List FlatNode) (wakes : Bool) (visits : ℕ) : Type 0 where
  pub node : FlatNode
  pub there : slice_get before place ≡ Some node
  pub waits : is_completed (node_state node) ≡ false
  pub climbs : Climbs state before place after wakes
  pub few : (many : ℕ) → IsWay before (Some place) many → visits ≤ many
  pub small : visits ≤ place + 1

abbrev pub TellsOne : AwaitState → List FlatNode → (place : ℕ) → List FlatNode → (wakes : Bool) → (visits : ℕ) → Type 0
TellsOne state before place after wakes visits = PassesOver before place after wakes visits ⊎ LeafComesTo state before place after wakes visits
