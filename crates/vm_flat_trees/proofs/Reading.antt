-- Trees read back from flat ones.
use Rattle.std.proofs.Common.{◌≡◌, refl, sym, ap, ap₂, ◌∙◌, ℕ, suc, ◌+◌, arith, Bool, true, false, if◌then◌else◌, List, [], ◌∷◌, ◌++◌, length, append_assoc, Option, Some, None}
use Rattle.std.proofs.lemmas.List.{take_at, drop_at, append-nil}
use Rattle.std.specs.List.{list_any, list_all}
use Rattle.std.specs.Prelude.{take, drop}
use Rattle.journal_model.specs.AwaitTree as Trees
use Rattle.journal_model.specs.AwaitTree.{AwaitState, Pending, Succeeded, Failed, is_completed, Combinator, AwaitTree, AwaitTrees, Single, Combined, no_trees, and_trees, combined_state, await_state, child_states, has_ended, has_ended_node, some_has_ended_node, is_awake, map_leaves, map_leaves_of_trees}
use Rattle.journal_model.specs.Future.{trees_from}
use Rattle.journal_model.specs.PrunedTrees.{lowered, pruned, pruned_children}
use Rattle.journal_laws.proofs.Leaving.{or-false, and-true}
use Rattle.journal_laws.proofs.Pruning.{completed-all}
use Rattle.vm_flat_trees.specs.declared.node.Counts.{Counts}
use Rattle.vm_flat_trees.specs.declared.node.FlatNode.{FlatNode}
use Rattle.vm_flat_trees.specs.declared.node.Kind.{Kind}
use Rattle.vm_flat_trees.specs.Counts.{counts_of, node_kind, lowered_kind}
use Rattle.vm_flat_trees.specs.Flat.{size_of, all_reckoned, flat_at, flats_at, flat_of, all_counted, trees_in, node_over, node_before, read_node, read_back, read_pending}
use Rattle.vm_flat_trees.proofs.Reckoning.{lowered-counts, leaf-state, tree-reckoned, trees-reckoned}

abbrev list_of : {Leaf : Type 0} → AwaitTrees Leaf → List (AwaitTree Leaf)
list_of no_trees = []
list_of (and_trees tree trees) = tree ∷ list_of trees

trees_of-list_of : (trees : AwaitTrees ℕ) → trees_from (list_of trees) ≡ trees
trees_of-list_of no_trees = refl
trees_of-list_of (and_trees tree trees) = ap (and_trees tree) (trees_of-list_of trees)

pub many-counted : (states : List AwaitState) → all_counted (counts_of states) ≡ length states
many-counted [] = refl
many-counted (Pending ∷ states) = omega (arith, many-counted states)
many-counted (Succeeded ∷ states) = omega (arith, many-counted states)
many-counted (Failed ∷ states) = omega (arith, many-counted states)

node-read : (combinator : Combinator) (many : ℕ) (trees : AwaitTrees ℕ) (rest : List (AwaitTree ℕ)) → many ≡ length (list_of trees)
    → read_node (node_kind combinator) many (list_of trees ++ rest) ≡ Combined combinator trees ∷ rest
node-read combinator many trees rest e = at combinator
  where
    taken : trees_from (take many (list_of trees ++ rest)) ≡ trees
    taken = ap trees_from (take_at (list_of trees) rest many (sym e)) ∙ trees_of-list_of trees

    left : drop many (list_of trees ++ rest) ≡ rest
    left = drop_at (list_of trees) rest many (sym e)

    at : (c : Combinator) → read_node (node_kind c) many (list_of trees ++ rest) ≡ Combined c trees ∷ rest
    at Trees.Unknown = ap₂ (λ (ts : AwaitTrees ℕ) (xs : List (AwaitTree ℕ)). Combined Trees.Unknown ts ∷ xs) taken left
    at Trees.FirstCompleted = ap₂ (λ (ts : AwaitTrees ℕ) (xs : List (AwaitTree ℕ)). Combined Trees.FirstCompleted ts ∷ xs) taken left
    at Trees.AllCompleted = ap₂ (λ (ts : AwaitTrees ℕ) (xs : List (AwaitTree ℕ)). Combined Trees.AllCompleted ts ∷ xs) taken left
    at Trees.FirstSucceededOrAllFailed = ap₂ (λ (ts : AwaitTrees ℕ) (xs : List (AwaitTree ℕ)). Combined Trees.FirstSucceededOrAllFailed ts ∷ xs) taken left
    at Trees.AllSucceededOrFirstFailed = ap₂ (λ (ts : AwaitTrees ℕ) (xs : List (AwaitTree ℕ)). Combined Trees.AllSucceededOrFirstFailed ts ∷ xs) taken left
    at (Trees.AtLeast required) = ap₂ (λ (ts : AwaitTrees ℕ) (xs : List (AwaitTree ℕ)). Combined (Trees.AtLeast required) ts ∷ xs) taken left

mutual
  pub same-leaves : (tree : AwaitTree ℕ) → map_leaves (λ handle. handle) tree ≡ tree
  same-leaves (Single leaf) = refl
  same-leaves (Combined combinator trees) = ap (Combined combinator) (same-leaves_of trees)

  same-leaves_of : (trees : AwaitTrees ℕ) → map_leaves_of_trees (λ handle. handle) trees ≡ trees
  same-leaves_of no_trees = refl
  same-leaves_of (and_trees tree trees) = ap₂ and_trees (same-leaves tree) (same-leaves_of trees)

trees_in-list_of : {Leaf : Type 0} → (trees : AwaitTrees Leaf) → trees_in (list_of trees) ≡ trees
trees_in-list_of no_trees = refl
trees_in-list_of (and_trees tree trees) = ap (and_trees tree) (trees_in-list_of trees)

node-back : {Leaf : Type 0} → (leaf : ℕ → AwaitState → Leaf) (combinator : Combinator) (counts : Counts) (trees : AwaitTrees Leaf) (rest : List (AwaitTree Leaf)) → all_counted counts ≡ length (list_of trees)
    → node_before leaf (node_kind combinator) counts (list_of trees ++ rest) ≡ Combined combinator trees ∷ rest
node-back {Leaf} leaf combinator counts trees rest e = at combinator
  where
    over : (c : Combinator) → node_over c (all_counted counts) (list_of trees ++ rest) ≡ Combined c trees ∷ rest
    over c =
        ap₂ (λ (ts : AwaitTrees Leaf) (xs : List (AwaitTree Leaf)). Combined c ts ∷ xs)
        (ap trees_in (take_at (list_of trees) rest (all_counted counts) (sym e)) ∙ trees_in-list_of trees) (drop_at (list_of trees) rest (all_counted counts) (sym e))

    at : (c : Combinator) → node_before leaf (node_kind c) counts (list_of trees ++ rest) ≡ Combined c trees ∷ rest
    at Trees.Unknown = over Trees.Unknown
    at Trees.FirstCompleted = over Trees.FirstCompleted
    at Trees.AllCompleted = over Trees.AllCompleted
    at Trees.FirstSucceededOrAllFailed = over Trees.FirstSucceededOrAllFailed
    at Trees.AllSucceededOrFirstFailed = over Trees.AllSucceededOrFirstFailed
    at (Trees.AtLeast required) = over (Trees.AtLeast required)

module _ {Leaf Made : Type 0} (made : ℕ → AwaitState → Made) (handle : Leaf → ℕ) (leaves : Leaf → AwaitState) where
  many-made : (trees : AwaitTrees Leaf) → length (all_reckoned trees leaves) ≡ length (list_of (map_leaves_of_trees (λ leaf. made (handle leaf) (leaves leaf)) trees))
  many-made no_trees = refl
  many-made (and_trees tree trees) = ap suc (many-made trees)

  mutual
    pub tree-read : (place : ℕ) (parent : Option ℕ) (tree : AwaitTree Leaf) (rest : List FlatNode)
        → read_back made (flat_at handle leaves place parent tree ++ rest) ≡ map_leaves (λ leaf. made (handle leaf) (leaves leaf)) tree ∷ read_back made rest
    tree-read place parent (Single leaf) rest =
        ap (λ (state : AwaitState). Single (made (handle leaf) state) ∷ read_back made rest) (leaf-state (leaves leaf) (handle leaf))
    tree-read place parent (Combined combinator trees) rest =
        ap (node_before made (node_kind combinator) (counts_of (all_reckoned trees leaves))) (trees-read (place + 1) place trees rest)
        ∙ node-back made combinator (counts_of (all_reckoned trees leaves)) (map_leaves_of_trees (λ leaf. made (handle leaf) (leaves leaf)) trees) (read_back made rest)
        (many-counted (all_reckoned trees leaves) ∙ many-made trees)

    pub trees-read : (place parent : ℕ) (trees : AwaitTrees Leaf) (rest : List FlatNode)
        → read_back made (flats_at handle leaves place parent trees ++ rest) ≡ list_of (map_leaves_of_trees (λ leaf. made (handle leaf) (leaves leaf)) trees) ++ read_back made rest
    trees-read place parent no_trees rest = refl
    trees-read place parent (and_trees tree trees) rest =
        ap (read_back made) (append_assoc (flat_at handle leaves place (Some parent) tree) (flats_at handle leaves (place + size_of tree) parent trees) rest)
        ∙ tree-read place (Some parent) tree (flats_at handle leaves (place + size_of tree) parent trees ++ rest)
        ∙ ap (λ (xs : List (AwaitTree Made)). map_leaves (λ leaf. made (handle leaf) (leaves leaf)) tree ∷ xs) (trees-read (place + size_of tree) parent trees rest)

module _ {Leaf : Type 0} (handle : Leaf → ℕ) (leaves : Leaf → AwaitState) where
  none-left : (trees : AwaitTrees Leaf) → list_all is_completed (child_states trees leaves) ≡ true → pruned_children trees leaves ≡ no_trees
  none-left no_trees all = refl
  none-left (and_trees tree trees) all =
      let (here, others) = and-true (is_completed (await_state tree leaves)) (list_all is_completed (child_states trees leaves)) all in
      rw here (none-left trees others)

  pending-many : (trees : AwaitTrees Leaf) → (counts_of (child_states trees leaves)).pending ≡ length (list_of (map_leaves_of_trees handle (pruned_children trees leaves)))
  pending-many no_trees = refl
  pending-many (and_trees tree trees) = by_state (await_state tree leaves) (pending-many trees)
    where
      by_state : (state : AwaitState) → (counts_of (child_states trees leaves)).pending ≡ length (list_of (map_leaves_of_trees handle (pruned_children trees leaves)))
          → (counts_of (state ∷ child_states trees leaves)).pending
          ≡ length (list_of (map_leaves_of_trees handle (if is_completed state then pruned_children trees leaves else and_trees (pruned tree leaves) (pruned_children trees leaves))))
      by_state Pending e = omega (arith, e)
      by_state Succeeded e = e
      by_state Failed e = e

  -- what is left of a tree before what is left behind it
  abbrev left_before : AwaitTree Leaf → List (AwaitTree ℕ) → List (AwaitTree ℕ)
  left_before tree xs = if is_completed (await_state tree leaves) then xs else map_leaves handle (pruned tree leaves) ∷ xs

  mutual
    pub tree-pending : (place : ℕ) (parent : Option ℕ) (tree : AwaitTree Leaf) (rest : List FlatNode) → has_ended_node tree leaves ≡ false
        → read_pending (flat_at handle leaves place parent tree ++ rest) ≡ left_before tree (read_pending rest)
    tree-pending place parent (Single leaf) rest own =
        ap (λ (state : AwaitState). if is_completed state then read_pending rest else Single (handle leaf) ∷ read_pending rest) (leaf-state (leaves leaf) (handle leaf))
    tree-pending place parent (Combined combinator trees) rest own =
        let (ends, quiet) = or-false (has_ended combinator (child_states trees leaves)) (some_has_ended_node trees leaves) own in
        ap₂ (λ (state : AwaitState) (xs : List (AwaitTree ℕ)). if is_completed state then xs else read_node (lowered_kind (node_kind combinator) (counts_of (all_reckoned trees leaves))) (counts_of (all_reckoned trees leaves)).pending xs)
        (tree-reckoned handle leaves (Combined combinator trees) own) (trees-pending (place + 1) place trees rest quiet)
        ∙ by_cases (is_completed (await_state (Combined combinator trees) leaves)) refl ends
        (ap (λ (xs : List AwaitState). lowered_kind (node_kind combinator) (counts_of xs)) (trees-reckoned handle leaves trees quiet) ∙ lowered-counts combinator (child_states trees leaves))
        (ap (λ (xs : List AwaitState). (counts_of xs).pending) (trees-reckoned handle leaves trees quiet) ∙ pending-many trees)
      where
        by_cases : (b : Bool) → is_completed (combined_state combinator (child_states trees leaves)) ≡ b → has_ended combinator (child_states trees leaves) ≡ false
            → lowered_kind (node_kind combinator) (counts_of (all_reckoned trees leaves)) ≡ node_kind (lowered combinator (child_states trees leaves))
            → (counts_of (all_reckoned trees leaves)).pending ≡ length (list_of (map_leaves_of_trees handle (pruned_children trees leaves)))
            → (if b then list_of (map_leaves_of_trees handle (pruned_children trees leaves)) ++ read_pending rest
            else read_node (lowered_kind (node_kind combinator) (counts_of (all_reckoned trees leaves))) (counts_of (all_reckoned trees leaves)).pending (list_of (map_leaves_of_trees handle (pruned_children trees leaves)) ++ read_pending rest))
            ≡ (if b then read_pending rest else map_leaves handle (pruned (Combined combinator trees) leaves) ∷ read_pending rest)
        by_cases true done ends kind many =
            ap (λ (ts : AwaitTrees Leaf). list_of (map_leaves_of_trees handle ts) ++ read_pending rest) (none-left trees (completed-all combinator (child_states trees leaves) done ends))
        by_cases false waits ends kind many =
            ap (λ (k : Kind). read_node k (counts_of (all_reckoned trees leaves)).pending (list_of (map_leaves_of_trees handle (pruned_children trees leaves)) ++ read_pending rest)) kind
            ∙ node-read (lowered combinator (child_states trees leaves)) (counts_of (all_reckoned trees leaves)).pending (map_leaves_of_trees handle (pruned_children trees leaves)) (read_pending rest) many

    pub trees-pending : (place parent : ℕ) (trees : AwaitTrees Leaf) (rest : List FlatNode) → some_has_ended_node trees leaves ≡ false
        → read_pending (flats_at handle leaves place parent trees ++ rest) ≡ list_of (map_leaves_of_trees handle (pruned_children trees leaves)) ++ read_pending rest
    trees-pending place parent no_trees rest quiet = refl
    trees-pending place parent (and_trees tree trees) rest quiet =
        let (own, others) = or-false (has_ended_node tree leaves) (some_has_ended_node trees leaves) quiet in
        ap read_pending (append_assoc (flat_at handle leaves place (Some parent) tree) (flats_at handle leaves (place + size_of tree) parent trees) rest)
        ∙ tree-pending place (Some parent) tree (flats_at handle leaves (place + size_of tree) parent trees ++ rest) own
        ∙ ap (left_before tree) (trees-pending (place + size_of tree) parent trees rest others)
        ∙ by_cases (is_completed (await_state tree leaves))
      where
        by_cases : (b : Bool) → (if b then list_of (map_leaves_of_trees handle (pruned_children trees leaves)) ++ read_pending rest
            else map_leaves handle (pruned tree leaves) ∷ list_of (map_leaves_of_trees handle (pruned_children trees leaves)) ++ read_pending rest)
            ≡ list_of (map_leaves_of_trees handle (if b then pruned_children trees leaves else and_trees (pruned tree leaves) (pruned_children trees leaves))) ++ read_pending rest
        by_cases true = refl
        by_cases false = refl

-- a flat tree read back is the tree, with what its leaves have come to
pub read-flat : {Made : Type 0} → (made : ℕ → AwaitState → Made) (tree : AwaitTree ℕ) (leaves : ℕ → AwaitState) → read_back made (flat_of tree leaves) ≡ map_leaves (λ handle. made handle (leaves handle)) tree ∷ []
read-flat made tree leaves =
    ap (read_back made) (sym (append-nil (flat_of tree leaves))) ∙ tree-read made (λ handle. handle) leaves 0 None tree []

-- what is left of a tree that sleeps
pub pending-flat : (tree : AwaitTree ℕ) (leaves : ℕ → AwaitState) → is_awake tree leaves ≡ false → read_pending (flat_of tree leaves) ≡ pruned tree leaves ∷ []
pending-flat tree leaves asleep =
    let (waits, own) = or-false (is_completed (await_state tree leaves)) (has_ended_node tree leaves) asleep in
    ap read_pending (sym (append-nil (flat_of tree leaves))) ∙ tree-pending (λ handle. handle) leaves 0 None tree [] own
    ∙ ap (λ (b : Bool). if b then [] else map_leaves (λ handle. handle) (pruned tree leaves) ∷ []) waits
    ∙ ap (λ (t : AwaitTree ℕ). t ∷ []) (same-leaves (pruned tree leaves))
