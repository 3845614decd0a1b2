-- Trees whose leaves know where they stand, so that one leaf of several with the same handle may come to something.
use Rattle.std.proofs.Common.{◌≡◌, refl, sym, ap, ap₂, ◌∙◌, subst, ℕ, zero, suc, ◌+◌, ◌<◌, ◌≤◌, arith, Bool, true, false, List, [], ◌∷◌, ◌++◌, length, map, Option, Some, ◌⊎◌, inl, inr, slice_get, slice_set}
use Rattle.std.proofs.lemmas.List.{map-append}
use Rattle.journal_model.specs.AwaitTree as Trees
use Rattle.journal_model.specs.AwaitTree.{AwaitState, Pending, Succeeded, Failed, Combinator, AwaitTree, AwaitTrees, Single, Combined, no_trees, and_trees}
use Rattle.vm_flat_trees.specs.declared.node.Kind.TheVariants as kinds
use Rattle.vm_flat_trees.specs.declared.node.Counts.{Counts}
use Rattle.vm_flat_trees.specs.declared.node.FlatNode.{FlatNode}
use Rattle.vm_flat_trees.specs.Counts.{no_counts, counts_of, state_by, node_kind}
use Rattle.vm_flat_trees.specs.Flat.{size_of, sizes_of, reckoned, all_reckoned, flat_at, flats_at}
use Rattle.vm_flat_trees.specs.ChildCounts.{bare, leaf_counts, come_to, is_leaf}
use Rattle.vm_flat_trees.specs.NotificationDelivery.{sites, all_sites}
use Rattle.vm_flat_trees.proofs.Standing.{flat-length}

abbrev pub Placed : Type 0
Placed = ℕ × ℕ

abbrev pub handle_in : Placed → ℕ
handle_in leaf = leaf.0

abbrev pub place_in : Placed → ℕ
place_in leaf = leaf.1

abbrev mutual
  pub placed : (place : ℕ) → AwaitTree ℕ → AwaitTree Placed
  placed place (Single handle) = Single (handle, place)
  placed place (Combined combinator trees) = Combined combinator (all_placed (place + 1) trees)

  pub all_placed : (place : ℕ) → AwaitTrees ℕ → AwaitTrees Placed
  all_placed place no_trees = no_trees
  all_placed place (and_trees tree trees) = and_trees (placed place tree) (all_placed (place + size_of tree) trees)

-- each leaf stands where it says
abbrev mutual
  pub IsPlaced : (place : ℕ) → AwaitTree Placed → Type 0
  IsPlaced place (Single leaf) = leaf.1 ≡ place
  IsPlaced place (Combined combinator trees) = AllPlaced (place + 1) trees

  pub AllPlaced : (place : ℕ) → AwaitTrees Placed → Type 0
  AllPlaced place no_trees = Unit {0}
  AllPlaced place (and_trees tree trees) = IsPlaced place tree × AllPlaced (place + size_of tree) trees

abbrev mutual
  pub EachLeaf : (Placed → Type 0) → AwaitTree Placed → Type 0
  EachLeaf holds (Single leaf) = holds leaf
  EachLeaf holds (Combined combinator trees) = EachLeaves holds trees

  pub EachLeaves : (Placed → Type 0) → AwaitTrees Placed → Type 0
  EachLeaves holds no_trees = Unit {0}
  EachLeaves holds (and_trees tree trees) = EachLeaf holds tree × EachLeaves holds trees

mutual
  pub each-leaf : (holds other : Placed → Type 0) → ((leaf : Placed) → holds leaf → other leaf) → (tree : AwaitTree Placed) → EachLeaf holds tree → EachLeaf other tree
  each-leaf holds other so (Single leaf) each = so leaf each
  each-leaf holds other so (Combined combinator trees) each = each-leaves holds other so trees each

  pub each-leaves : (holds other : Placed → Type 0) → ((leaf : Placed) → holds leaf → other leaf) → (trees : AwaitTrees Placed) → EachLeaves holds trees → EachLeaves other trees
  each-leaves holds other so no_trees each = tt
  each-leaves holds other so (and_trees tree trees) each = (each-leaf holds other so tree each.0, each-leaves holds other so trees each.1)

mutual
  pub size-placed : (place : ℕ) (tree : AwaitTree ℕ) → size_of (placed place tree) ≡ size_of tree
  size-placed place (Single handle) = refl
  size-placed place (Combined combinator trees) = ap (λ (n : ℕ). 1 + n) (sizes-placed (place + 1) trees)

  sizes-placed : (place : ℕ) (trees : AwaitTrees ℕ) → sizes_of (all_placed place trees) ≡ sizes_of trees
  sizes-placed place no_trees = refl
  sizes-placed place (and_trees tree trees) = ap₂ (λ (a b : ℕ). a + b) (size-placed place tree) (sizes-placed (place + size_of tree) trees)

mutual
  pub is-placed : (place : ℕ) (tree : AwaitTree ℕ) → IsPlaced place (placed place tree)
  is-placed place (Single handle) = refl
  is-placed place (Combined combinator trees) = all-are-placed (place + 1) trees

  all-are-placed : (place : ℕ) (trees : AwaitTrees ℕ) → AllPlaced place (all_placed place trees)
  all-are-placed place no_trees = tt
  all-are-placed place (and_trees tree trees) =
      (is-placed place tree, subst (λ (n : ℕ). AllPlaced (place + n) (all_placed (place + size_of tree) trees)) (sym (size-placed place tree)) (all-are-placed (place + size_of tree) trees))

module _ (leaves : ℕ → AwaitState) where
  mutual
    reckoned-placed : (place : ℕ) (tree : AwaitTree ℕ) → reckoned (placed place tree) (λ leaf. leaves leaf.0) ≡ reckoned tree leaves
    reckoned-placed place (Single handle) = refl
    reckoned-placed place (Combined combinator trees) =
        ap (λ (states : List AwaitState). state_by (node_kind combinator) (counts_of states)) (all_reckoned-placed (place + 1) trees)

    all_reckoned-placed : (place : ℕ) (trees : AwaitTrees ℕ) → all_reckoned (all_placed place trees) (λ leaf. leaves leaf.0) ≡ all_reckoned trees leaves
    all_reckoned-placed place no_trees = refl
    all_reckoned-placed place (and_trees tree trees) =
        ap₂ (λ (state : AwaitState) (states : List AwaitState). state ∷ states) (reckoned-placed place tree) (all_reckoned-placed (place + size_of tree) trees)

  -- the flat vector is the same
  mutual
    pub flat-placed : (place : ℕ) (parent : Option ℕ) (tree : AwaitTree ℕ)
        → flat_at handle_in (λ leaf. leaves leaf.0) place parent (placed place tree) ≡ flat_at (λ handle. handle) leaves place parent tree
    flat-placed place parent (Single handle) = refl
    flat-placed place parent (Combined combinator trees) =
        ap₂ (λ (states : List AwaitState) (nodes : List FlatNode). let root : FlatNode = record { kind = node_kind combinator; parent = parent; counts = counts_of states } in root ∷ nodes)
        (all_reckoned-placed (place + 1) trees) (flats-placed (place + 1) place trees)

    flats-placed : (place parent : ℕ) (trees : AwaitTrees ℕ)
        → flats_at handle_in (λ leaf. leaves leaf.0) place parent (all_placed place trees) ≡ flats_at (λ handle. handle) leaves place parent trees
    flats-placed place parent no_trees = refl
    flats-placed place parent (and_trees tree trees) =
        ap₂ (λ (xs ys : List FlatNode). xs ++ ys) (flat-placed place (Some parent) tree)
        (ap (λ (n : ℕ). flats_at handle_in (λ leaf. leaves leaf.0) (place + n) parent (all_placed (place + size_of tree) trees)) (size-placed place tree)
        ∙ flats-placed (place + size_of tree) parent trees)

-- and the leaves stand where they stood
mutual
  pub sites-placed : (test : ℕ → Bool) (place depth : ℕ) (tree : AwaitTree ℕ) → sites (λ leaf. test (handle_in leaf)) place depth (placed place tree) ≡ sites test place depth tree
  sites-placed test place depth (Single handle) = refl
  sites-placed test place depth (Combined combinator trees) = all_sites-placed test (place + 1) (depth + 1) trees

  all_sites-placed : (test : ℕ → Bool) (place depth : ℕ) (trees : AwaitTrees ℕ) → all_sites (λ leaf. test (handle_in leaf)) place depth (all_placed place trees) ≡ all_sites test place depth trees
  all_sites-placed test place depth no_trees = refl
  all_sites-placed test place depth (and_trees tree trees) =
      ap₂ (λ (xs ys : List (ℕ × ℕ)). xs ++ ys) (sites-placed test place depth tree)
      (ap (λ (n : ℕ). all_sites (λ leaf. test (handle_in leaf)) (place + n) depth (all_placed (place + size_of tree) trees)) (size-placed place tree)
      ∙ all_sites-placed test (place + size_of tree) depth trees)

-- trees whose leaves have come to the same have the same flat vector
module _ (states others : Placed → AwaitState) where
  mutual
    reckoned-same : (tree : AwaitTree Placed) → EachLeaf (λ leaf. states leaf ≡ others leaf) tree → reckoned tree states ≡ reckoned tree others
    reckoned-same (Single leaf) same = same
    reckoned-same (Combined combinator trees) same = ap (λ (xs : List AwaitState). state_by (node_kind combinator) (counts_of xs)) (all_reckoned-same trees same)

    all_reckoned-same : (trees : AwaitTrees Placed) → EachLeaves (λ leaf. states leaf ≡ others leaf) trees → all_reckoned trees states ≡ all_reckoned trees others
    all_reckoned-same no_trees same = refl
    all_reckoned-same (and_trees tree trees) same =
        ap₂ (λ (x : AwaitState) (xs : List AwaitState). x ∷ xs) (reckoned-same tree same.0) (all_reckoned-same trees same.1)

  mutual
    pub flat-same : (place : ℕ) (parent : Option ℕ) (tree : AwaitTree Placed) → EachLeaf (λ leaf. states leaf ≡ others leaf) tree
        → flat_at handle_in states place parent tree ≡ flat_at handle_in others place parent tree
    flat-same place parent (Single leaf) same =
        ap (λ (state : AwaitState). let one : FlatNode = record { kind = kinds.Leaf leaf.0; parent = parent; counts = counts_of (state ∷ []) } in one ∷ []) same
    flat-same place parent (Combined combinator trees) same =
        ap₂ (λ (xs : List AwaitState) (nodes : List FlatNode). let root : FlatNode = record { kind = node_kind combinator; parent = parent; counts = counts_of xs } in root ∷ nodes)
        (all_reckoned-same trees same) (flats-same (place + 1) place trees same)

    pub flats-same : (place parent : ℕ) (trees : AwaitTrees Placed) → EachLeaves (λ leaf. states leaf ≡ others leaf) trees
        → flats_at handle_in states place parent trees ≡ flats_at handle_in others place parent trees
    flats-same place parent no_trees same = refl
    flats-same place parent (and_trees tree trees) same =
        ap₂ (λ (xs ys : List FlatNode). xs ++ ys) (flat-same place (Some parent) tree same.0) (flats-same (place + size_of tree) parent trees same.1)

-- leaves stand among the nodes of their tree
mutual
  pub tree-range : (place : ℕ) (tree : AwaitTree Placed) → IsPlaced place tree → EachLeaf (λ leaf. (place ≤ leaf.1) × (leaf.1 < place + size_of tree)) tree
  tree-range place (Single leaf) is = (omega (arith, is), omega (arith, is))
  tree-range place (Combined combinator trees) is =
      each-leaves (λ leaf. (place + 1 ≤ leaf.1) × (leaf.1 < (place + 1) + sizes_of trees)) (λ leaf. (place ≤ leaf.1) × (leaf.1 < place + (1 + sizes_of trees)))
      (λ leaf h. (omega (arith, h.0), omega (arith, h.1))) trees (trees-range (place + 1) trees is)

  pub trees-range : (place : ℕ) (trees : AwaitTrees Placed) → AllPlaced place trees → EachLeaves (λ leaf. (place ≤ leaf.1) × (leaf.1 < place + sizes_of trees)) trees
  trees-range place no_trees are = tt
  trees-range place (and_trees tree trees) are = (
    each-leaf (λ leaf. (place ≤ leaf.1) × (leaf.1 < place + size_of tree)) (λ leaf. (place ≤ leaf.1) × (leaf.1 < place + (size_of tree + sizes_of trees)))
        (λ leaf h. (h.0, omega (arith, h.1))) tree (tree-range place tree are.0),
    each-leaves (λ leaf. (place + size_of tree ≤ leaf.1) × (leaf.1 < (place + size_of tree) + sizes_of trees)) (λ leaf. (place ≤ leaf.1) × (leaf.1 < place + (size_of tree + sizes_of trees)))
        (λ leaf h. (omega (arith, h.0), omega (arith, h.1))) trees (trees-range (place + size_of tree) trees are.1),
  )

pub get-left : (xs ys : List FlatNode) (k : ℕ) (node : FlatNode) → slice_get xs k ≡ Some node → slice_get (xs ++ ys) k ≡ Some node
get-left [] ys k node there = cc
get-left (x ∷ xs) ys zero node there = there
get-left (x ∷ xs) ys (suc k) node there = get-left xs ys k node there

pub get-right : (xs ys : List FlatNode) (k i : ℕ) → i ≡ length xs + k → slice_get (xs ++ ys) i ≡ slice_get ys k
get-right [] ys k i at = ap (slice_get ys) (omega (arith, at))
get-right (x ∷ xs) ys k zero at = absurd (omega (arith, at))
get-right (x ∷ xs) ys k (suc i) at = get-right xs ys k i (omega (arith, at))

set-left : (xs ys : List FlatNode) (k : ℕ) (node new : FlatNode) → slice_get xs k ≡ Some node → slice_set (xs ++ ys) k new ≡ slice_set xs k new ++ ys
set-left [] ys k node new there = cc
set-left (x ∷ xs) ys zero node new there = refl
set-left (x ∷ xs) ys (suc k) node new there = ap (λ (ns : List FlatNode). x ∷ ns) (set-left xs ys k node new there)

set-right : (xs ys : List FlatNode) (k i : ℕ) (new : FlatNode) → i ≡ length xs + k → slice_set (xs ++ ys) i new ≡ xs ++ slice_set ys k new
set-right [] ys k i new at = ap (λ (n : ℕ). slice_set ys n new) (omega (arith, at))
set-right (x ∷ xs) ys k zero new at = absurd (omega (arith, at))
set-right (x ∷ xs) ys k (suc i) new at = ap (λ (ns : List FlatNode). x ∷ ns) (set-right xs ys k i new (omega (arith, at)))

-- where a node of two lists stands
get-either : (xs ys : List FlatNode) (i : ℕ) (node : FlatNode) → slice_get (xs ++ ys) i ≡ Some node
    → ((slice_get xs i ≡ Some node) × (i < length xs)) ⊎ ((k : ℕ) × (i ≡ length xs + k) × (slice_get ys k ≡ Some node))
get-either [] ys i node there = inr (i, omega arith, there)
get-either (x ∷ xs) ys zero node there = inl (there, omega arith)
get-either (x ∷ xs) ys (suc i) node there = one_more (get-either xs ys i node there)
  where
    one_more : ((slice_get xs i ≡ Some node) × (i < length xs)) ⊎ ((k : ℕ) × (i ≡ length xs + k) × (slice_get ys k ≡ Some node))
        → ((slice_get xs i ≡ Some node) × (suc i < suc (length xs))) ⊎ ((k : ℕ) × (suc i ≡ suc (length xs) + k) × (slice_get ys k ≡ Some node))
    one_more (inl (e, below)) = inl (e, omega (arith, below))
    one_more (inr (k, at, e)) = inr (k, omega (arith, at), e)

no-leaf : (combinator : Combinator) → is_leaf (node_kind combinator) ≡ false
no-leaf Trees.Unknown = refl
no-leaf Trees.FirstCompleted = refl
no-leaf Trees.AllCompleted = refl
no-leaf Trees.FirstSucceededOrAllFailed = refl
no-leaf Trees.AllSucceededOrFirstFailed = refl
no-leaf (Trees.AtLeast required) = refl

bare-root : (combinator : Combinator) (counts : Counts) → leaf_counts (node_kind combinator) counts ≡ no_counts
bare-root Trees.Unknown counts = refl
bare-root Trees.FirstCompleted counts = refl
bare-root Trees.AllCompleted counts = refl
bare-root Trees.FirstSucceededOrAllFailed counts = refl
bare-root Trees.AllSucceededOrFirstFailed counts = refl
bare-root (Trees.AtLeast required) counts = refl

-- one leaf has come to another state
module _ (states others : Placed → AwaitState) (state : AwaitState) (i : ℕ) (node : FlatNode) (leaf : is_leaf node.kind ≡ true)
    (here : (handle : ℕ) → node.kind ≡ kinds.Leaf handle → others (handle, i) ≡ state) (elsewhere : (one : Placed) → (one.1 ≡ i → ⊥) → states one ≡ others one) where
  in-either : (xs ys xs' ys' : List FlatNode) (k : ℕ)
      → (slice_get xs k ≡ Some node → map bare (slice_set xs k (come_to state node)) ≡ map bare xs')
      → ((j : ℕ) → k ≡ length xs + j → slice_get ys j ≡ Some node → map bare (slice_set ys j (come_to state node)) ≡ map bare ys')
      → (k < length xs → ys ≡ ys') → ((j : ℕ) → k ≡ length xs + j → xs ≡ xs')
      → ((slice_get xs k ≡ Some node) × (k < length xs)) ⊎ ((j : ℕ) × (k ≡ length xs + j) × (slice_get ys j ≡ Some node))
      → map bare (slice_set (xs ++ ys) k (come_to state node)) ≡ map bare (xs' ++ ys')
  in-either xs ys xs' ys' k left right rest first (inl (got, below)) =
      ap (map bare) (set-left xs ys k node (come_to state node) got) ∙ map-append bare (slice_set xs k (come_to state node)) ys
      ∙ ap₂ (λ (ps qs : List FlatNode). ps ++ qs) (left got) (ap (map bare) (rest below)) ∙ sym (map-append bare xs' ys')
  in-either xs ys xs' ys' k left right rest first (inr (j, on, got)) =
      ap (map bare) (set-right xs ys j k (come_to state node) on) ∙ map-append bare xs (slice_set ys j (come_to state node))
      ∙ ap₂ (λ (ps qs : List FlatNode). ps ++ qs) (ap (map bare) (first j on)) (right j on got) ∙ sym (map-append bare xs' ys')

  mutual
    pub tree-told : (place : ℕ) (parent : Option ℕ) (tree : AwaitTree Placed) (k : ℕ) → IsPlaced place tree → i ≡ place + k → slice_get (flat_at handle_in states place parent tree) k ≡ Some node
        → map bare (slice_set (flat_at handle_in states place parent tree) k (come_to state node)) ≡ map bare (flat_at handle_in others place parent tree)
    tree-told place parent (Single (handle, at_place)) zero is at there =
        let own : FlatNode = record { kind = kinds.Leaf handle; parent = parent; counts = counts_of (states (handle, at_place) ∷ []) } in
        let same : own ≡ node = cc in
        let stands : at_place ≡ i = omega (arith, at, is) in
        let now : others (handle, at_place) ≡ state = ap (λ (p : ℕ). others (handle, p)) stands ∙ here handle (ap (λ (n : FlatNode). n.kind) (sym same)) in
        ap (λ (n : FlatNode). bare (come_to state n) ∷ []) (sym same)
        ∙ ap (λ (s : AwaitState). let one : FlatNode = record { kind = kinds.Leaf handle; parent = parent; counts = counts_of (s ∷ []) } in one ∷ []) (sym now)
    tree-told place parent (Single one) (suc k) is at there = cc
    tree-told place parent (Combined combinator trees) zero is at there =
        let root : FlatNode = record { kind = node_kind combinator; parent = parent; counts = counts_of (all_reckoned trees states) } in
        let same : root ≡ node = cc in
        let wrong : is_leaf (node_kind combinator) ≡ true = ap (λ (n : FlatNode). is_leaf n.kind) same ∙ leaf in
        let right = no-leaf combinator in cc
    tree-told place parent (Combined combinator trees) (suc k) is at there =
        ap₂ (λ (counts : Counts) (ns : List FlatNode). let root : FlatNode = record { kind = node_kind combinator; parent = parent; counts = counts } in root ∷ ns)
        (bare-root combinator (counts_of (all_reckoned trees states)) ∙ sym (bare-root combinator (counts_of (all_reckoned trees others))))
        (trees-told (place + 1) place trees k is (omega (arith, at)) there)

    pub trees-told : (place parent : ℕ) (trees : AwaitTrees Placed) (k : ℕ) → AllPlaced place trees → i ≡ place + k → slice_get (flats_at handle_in states place parent trees) k ≡ Some node
        → map bare (slice_set (flats_at handle_in states place parent trees) k (come_to state node)) ≡ map bare (flats_at handle_in others place parent trees)
    trees-told place parent no_trees k are at there = cc
    trees-told place parent (and_trees tree trees) k are at there =
        in-either (flat_at handle_in states place (Some parent) tree) (flats_at handle_in states (place + size_of tree) parent trees)
        (flat_at handle_in others place (Some parent) tree) (flats_at handle_in others (place + size_of tree) parent trees) k
        (λ got. tree-told place (Some parent) tree k are.0 at got)
        (λ j on got. trees-told (place + size_of tree) parent trees j are.1 (omega (arith, on, at, flat-length handle_in states place (Some parent) tree)) got)
        (λ below. flats-same states others (place + size_of tree) parent trees
        (each-leaves (λ one. (place + size_of tree ≤ one.1) × (one.1 < (place + size_of tree) + sizes_of trees)) (λ one. states one ≡ others one)
        (λ one h. elsewhere one (λ e. absurd (omega (arith, e, h.0, at, below, flat-length handle_in states place (Some parent) tree))))
        trees (trees-range (place + size_of tree) trees are.1)))
        (λ j on. flat-same states others place (Some parent) tree
        (each-leaf (λ one. (place ≤ one.1) × (one.1 < place + size_of tree)) (λ one. states one ≡ others one)
        (λ one h. elsewhere one (λ e. absurd (omega (arith, e, h.1, at, on, flat-length handle_in states place (Some parent) tree))))
        tree (tree-range place tree are.0)))
        (get-either (flat_at handle_in states place (Some parent) tree) (flats_at handle_in states (place + size_of tree) parent trees) k node there)
