-- Where the leaves of an id are found, and what a loop over nodes tells.
use Rattle.std.proofs.Common.{◌≡◌, refl, sym, ap, ap₂, ◌∙◌, ℕ, zero, suc, ◌+◌, ◌<◌, ◌≤◌, arith, Bool, true, false, if◌then◌else◌, List, [], ◌∷◌, ◌++◌, length, map, take, Option, Some, None, get_or}
use Rattle.std.proofs.lemmas.List.{map-append, take_more, take_all}
use Rattle.journal_model.specs.AwaitTree as Trees
use Rattle.journal_model.specs.AwaitTree.{AwaitState, AwaitTree, AwaitTrees, Single, Combined, Combinator, no_trees, and_trees, is_completed}
use Rattle.vm_flat_trees.specs.declared.node.Kind.{Kind}
use Rattle.vm_flat_trees.specs.declared.node.Kind.TheVariants as kinds
use Rattle.vm_flat_trees.specs.declared.node.FlatNode.{FlatNode}
use Rattle.vm_flat_trees.specs.Counts.{node_kind}
use Rattle.vm_flat_trees.specs.Flat.{size_of, flat_at, flats_at, flat_of}
use Rattle.vm_flat_trees.specs.NotificationDelivery.{sites, all_sites, place_at, places_of}
use Rattle.vm_flat_trees.specs.Places.{places_before, places_where}
use Rattle.vm_flat_trees.proofs.Standing.{flat-length}

before-append : (test : ℕ → Bool) (place : ℕ) (kind : Kind) (xs ys : List ℕ) → places_before test place kind (xs ++ ys) ≡ places_before test place kind xs ++ ys
before-append test place (kinds.Leaf handle) xs ys = by_test (test handle)
  where
    by_test : (b : Bool) → (if b then place ∷ (xs ++ ys) else xs ++ ys) ≡ (if b then place ∷ xs else xs) ++ ys
    by_test true = refl
    by_test false = refl
before-append test place kinds.Unknown xs ys = refl
before-append test place kinds.FirstCompleted xs ys = refl
before-append test place kinds.AllCompleted xs ys = refl
before-append test place kinds.FirstSucceededOrAllFailed xs ys = refl
before-append test place kinds.AllSucceededOrFirstFailed xs ys = refl
before-append test place (kinds.AtLeast required) xs ys = refl

pub where-append : (test : ℕ → Bool) (place : ℕ) (xs ys : List FlatNode) (at : ℕ) → at ≡ place + length xs → places_where test place (xs ++ ys) ≡ places_where test place xs ++ places_where test at ys
where-append test place [] ys at is = ap (λ (p : ℕ). places_where test p ys) (omega (arith, is))
where-append test place (x ∷ xs) ys at is =
    ap (places_before test place x.kind) (where-append test (place + 1) xs ys at (omega (arith, is)))
    ∙ before-append test place x.kind (places_where test (place + 1) xs) (places_where test at ys)

inner-before : (test : ℕ → Bool) (place : ℕ) (combinator : Combinator) (places : List ℕ) → places_before test place (node_kind combinator) places ≡ places
inner-before test place Trees.Unknown places = refl
inner-before test place Trees.FirstCompleted places = refl
inner-before test place Trees.AllCompleted places = refl
inner-before test place Trees.FirstSucceededOrAllFailed places = refl
inner-before test place Trees.AllSucceededOrFirstFailed places = refl
inner-before test place (Trees.AtLeast required) places = refl

module _ (test : ℕ → Bool) (leaves : ℕ → AwaitState) where
  mutual
    where-tree : (place depth : ℕ) (parent : Option ℕ) (tree : AwaitTree ℕ) → places_where test place (flat_at (λ handle. handle) leaves place parent tree) ≡ map place_at (sites test place depth tree)
    where-tree place depth parent (Single handle) = by_test (test handle)
      where
        by_test : (b : Bool) → (if b then place ∷ [] else []) ≡ map place_at (if b then (place, depth) ∷ [] else [])
        by_test true = refl
        by_test false = refl
    where-tree place depth parent (Combined combinator trees) =
        inner-before test place combinator (places_where test (place + 1) (flats_at (λ handle. handle) leaves (place + 1) place trees)) ∙ where-trees (place + 1) (depth + 1) place trees

    where-trees : (place depth parent : ℕ) (trees : AwaitTrees ℕ) → places_where test place (flats_at (λ handle. handle) leaves place parent trees) ≡ map place_at (all_sites test place depth trees)
    where-trees place depth parent no_trees = refl
    where-trees place depth parent (and_trees tree trees) =
        where-append test place (flat_at (λ handle. handle) leaves place (Some parent) tree) (flats_at (λ handle. handle) leaves (place + size_of tree) parent trees) (place + size_of tree)
        (ap (λ (n : ℕ). place + n) (sym (flat-length (λ handle. handle) leaves place (Some parent) tree)))
        ∙ ap₂ (λ (xs ys : List ℕ). xs ++ ys) (where-tree place depth (Some parent) tree) (where-trees (place + size_of tree) depth parent trees)
        ∙ sym (map-append place_at (sites test place depth tree) (all_sites test (place + size_of tree) depth trees))

  pub where-flat : (tree : AwaitTree ℕ) → places_where test 0 (flat_of tree leaves) ≡ places_of test tree
  where-flat tree = where-tree 0 1 None tree

pub take-length : (nodes : List FlatNode) (i : ℕ) → i ≤ length nodes → length (take i nodes) ≡ i
take-length nodes zero le = refl
take-length [] (suc i) le = absurd (omega (arith, le))
take-length (x ∷ xs) (suc i) le = ap suc (take-length xs i (omega (arith, le)))

-- one more node was looked at
pub where-next : (test : ℕ → Bool) (nodes : List FlatNode) (i : ℕ) (node other : FlatNode) → i < length nodes → node ≡ get_or nodes i other
    → places_where test 0 (take (i + 1) nodes) ≡ places_where test 0 (take i nodes) ++ places_before test i node.kind []
where-next test nodes i node other below is =
    ap (places_where test 0) (take_more nodes i other below)
    ∙ where-append test 0 (take i nodes) (get_or nodes i other ∷ []) i (omega (arith, take-length nodes i (omega (arith, below))))
    ∙ ap (λ (n : FlatNode). places_where test 0 (take i nodes) ++ places_before test i n.kind []) (sym is)

pub where-all : (test : ℕ → Bool) (nodes : List FlatNode) (i : ℕ) → length nodes ≤ i → places_where test 0 (take i nodes) ≡ places_where test 0 nodes
where-all test nodes i end = ap (places_where test 0) (take_all i nodes end)
