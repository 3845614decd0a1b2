-- The flat vector of a tree counts what each node's children have come to, and is the only one that does.
use Rattle.std.proofs.Common.{◌≡◌, refl, sym, ap, ap₂, ◌∙◌, subst, ℕ, zero, suc, ◌+◌, ◌<◌, ◌≤◌, ◌==◌, ne_eqb, eq-eqb, arith, Bool, true, false, if◌then◌else◌, List, [], ◌∷◌, ◌++◌, length, map, Option, Some, None, ◌⊎◌, inl, inr, slice_get}
use Rattle.std.proofs.lemmas.List.{length-append}
use Rattle.journal_model.specs.AwaitTree as Trees
use Rattle.journal_model.specs.AwaitTree.{AwaitState, Pending, Succeeded, Failed, Combinator, AwaitTree, AwaitTrees, Single, Combined, no_trees, and_trees}
use Rattle.vm_flat_trees.specs.declared.node.Kind.{Kind}
use Rattle.vm_flat_trees.specs.declared.node.Kind.TheVariants as kinds
use Rattle.vm_flat_trees.specs.declared.node.Counts.{Counts}
use Rattle.vm_flat_trees.specs.declared.node.FlatNode.{FlatNode}
use Rattle.vm_flat_trees.specs.Counts.{no_counts, child_counted, counted_all, counts_of, node_kind}
use Rattle.vm_flat_trees.specs.Flat.{size_of, sizes_of, reckoned, all_reckoned, flat_at, flats_at, node_state}
use Rattle.vm_flat_trees.specs.ChildCounts.{is_at, tally, inner_counts, leaf_counts, bare, Settling, StandsBefore, IsOrdered}
use Rattle.vm_flat_trees.proofs.Reckoning.{leaf-state}

pub tally-append : (p : ℕ) (xs ys : List FlatNode) (counts : Counts) → tally p (xs ++ ys) counts ≡ tally p xs (tally p ys counts)
tally-append p [] ys counts = refl
tally-append p (x ∷ xs) ys counts = ap (λ (c : Counts). if is_at p x.parent then child_counted (node_state x) c else c) (tally-append p xs ys counts)

outside-apart : (p place many : ℕ) → (p < place) ⊎ (place + (1 + many) ≤ p) → p ≡ place → ⊥
outside-apart p place many (inl below) e = absurd (omega (arith, below, e))
outside-apart p place many (inr above) e = absurd (omega (arith, above, e))

outside-inner : (p place many : ℕ) → (p < place) ⊎ (place + (1 + many) ≤ p) → (p < place + 1) ⊎ ((place + 1) + many ≤ p)
outside-inner p place many (inl below) = inl (omega (arith, below))
outside-inner p place many (inr above) = inr (omega (arith, above))

outside-first : (p place one more : ℕ) → (p < place) ⊎ (place + (one + more) ≤ p) → (p < place) ⊎ (place + one ≤ p)
outside-first p place one more (inl below) = inl below
outside-first p place one more (inr above) = inr (omega (arith, above))

outside-rest : (p place one more : ℕ) → (p < place) ⊎ (place + (one + more) ≤ p) → (p < place + one) ⊎ ((place + one) + more ≤ p)
outside-rest p place one more (inl below) = inl (omega (arith, below))
outside-rest p place one more (inr above) = inr (omega (arith, above))

both_if : (b : Bool) (state : AwaitState) (states : List AwaitState) (counts : Counts)
    → (if b then child_counted state (if b then counted_all states counts else counts) else (if b then counted_all states counts else counts)) ≡ (if b then counted_all (state ∷ states) counts else counts)
both_if true state states counts = refl
both_if false state states counts = refl

inner-node : (combinator : Combinator) (counts : Counts) → inner_counts (node_kind combinator) counts ≡ counts
inner-node Trees.Unknown counts = refl
inner-node Trees.FirstCompleted counts = refl
inner-node Trees.AllCompleted counts = refl
inner-node Trees.FirstSucceededOrAllFailed counts = refl
inner-node Trees.AllSucceededOrFirstFailed counts = refl
inner-node (Trees.AtLeast required) counts = refl

settling-append : (place : ℕ) (xs ys : List FlatNode) → Settling None Pending place xs → Settling None Pending (place + length xs) ys
    → ((p : ℕ) (counts : Counts) → place ≤ p → p < place + length xs → tally p ys counts ≡ counts) → Settling None Pending place (xs ++ ys)
settling-append place [] ys settled others apart = subst (λ (p : ℕ). Settling None Pending p ys) (omega arith) others
settling-append place (x ∷ xs) ys settled others apart = (
  settled.0 ∙ ap (tally place xs) (sym (apart place no_counts (omega arith) (omega arith))) ∙ sym (tally-append place xs ys no_counts),
  settling-append (place + 1) xs ys settled.1 (subst (λ (p : ℕ). Settling None Pending p ys) (omega arith) others) (λ p counts le lt. apart p counts (omega (arith, le)) (omega (arith, lt))),
)

-- each node stands behind its parent; the first of these at this place
abbrev Ordered : (place : ℕ) → List FlatNode → Type 0
Ordered place [] = Unit {0}
Ordered place (node ∷ nodes) = StandsBefore node.parent place × Ordered (place + 1) nodes

ordered-append : (place : ℕ) (xs ys : List FlatNode) → Ordered place xs → Ordered (place + length xs) ys → Ordered place (xs ++ ys)
ordered-append place [] ys own others = subst (λ (p : ℕ). Ordered p ys) (omega arith) others
ordered-append place (x ∷ xs) ys own others = (own.0, ordered-append (place + 1) xs ys own.1 (subst (λ (p : ℕ). Ordered p ys) (omega arith) others))

ordered-at : (place : ℕ) (xs : List FlatNode) (k i : ℕ) (node : FlatNode) → i ≡ place + k → Ordered place xs → slice_get xs k ≡ Some node → StandsBefore node.parent i
ordered-at place [] k i node at ordered there = cc
ordered-at place (x ∷ xs) zero i node at ordered there =
    let is : x ≡ node = cc in
    let here : place ≡ i = omega (arith, at) in
    subst (λ (n : FlatNode). StandsBefore n.parent i) is (subst (λ (p : ℕ). StandsBefore x.parent p) here ordered.0)
ordered-at place (x ∷ xs) (suc k) i node at ordered there = ordered-at (place + 1) xs k i node (omega (arith, at)) ordered.1 there

module _ {Leaf : Type 0} (handle : Leaf → ℕ) (leaves : Leaf → AwaitState) where
  mutual
    pub flat-length : (place : ℕ) (parent : Option ℕ) (tree : AwaitTree Leaf) → length (flat_at handle leaves place parent tree) ≡ size_of tree
    flat-length place parent (Single leaf) = refl
    flat-length place parent (Combined combinator trees) = omega (arith, flats-length (place + 1) place trees)

    pub flats-length : (place parent : ℕ) (trees : AwaitTrees Leaf) → length (flats_at handle leaves place parent trees) ≡ sizes_of trees
    flats-length place parent no_trees = refl
    flats-length place parent (and_trees tree trees) =
        length-append (flat_at handle leaves place (Some parent) tree) (flats_at handle leaves (place + size_of tree) parent trees)
        ∙ ap₂ (λ (a b : ℕ). a + b) (flat-length place (Some parent) tree) (flats-length (place + size_of tree) parent trees)

  mutual
    tree-tally : (p place : ℕ) (parent : Option ℕ) (tree : AwaitTree Leaf) (counts : Counts) → (p < place) ⊎ (place + size_of tree ≤ p)
        → tally p (flat_at handle leaves place parent tree) counts ≡ (if is_at p parent then child_counted (reckoned tree leaves) counts else counts)
    tree-tally p place parent (Single leaf) counts outside =
        ap (λ (state : AwaitState). if is_at p parent then child_counted state counts else counts) (leaf-state (leaves leaf) (handle leaf))
    tree-tally p place parent (Combined combinator trees) counts outside =
        ap (λ (c : Counts). if is_at p parent then child_counted (reckoned (Combined combinator trees) leaves) c else c)
        (trees-tally p (place + 1) place trees counts (outside-inner p place (sizes_of trees) outside)
        ∙ ap (λ (b : Bool). if b then counted_all (all_reckoned trees leaves) counts else counts)
        (ne_eqb place p (λ e. outside-apart p place (sizes_of trees) outside (sym e))))

    trees-tally : (p place parent : ℕ) (trees : AwaitTrees Leaf) (counts : Counts) → (p < place) ⊎ (place + sizes_of trees ≤ p)
        → tally p (flats_at handle leaves place parent trees) counts ≡ (if parent == p then counted_all (all_reckoned trees leaves) counts else counts)
    trees-tally p place parent no_trees counts outside = same (parent == p)
      where
        same : (b : Bool) → counts ≡ (if b then counts else counts)
        same true = refl
        same false = refl
    trees-tally p place parent (and_trees tree trees) counts outside =
        tally-append p (flat_at handle leaves place (Some parent) tree) (flats_at handle leaves (place + size_of tree) parent trees) counts
        ∙ tree-tally p place (Some parent) tree (tally p (flats_at handle leaves (place + size_of tree) parent trees) counts) (outside-first p place (size_of tree) (sizes_of trees) outside)
        ∙ ap (λ (c : Counts). if parent == p then child_counted (reckoned tree leaves) c else c)
        (trees-tally p (place + size_of tree) parent trees counts (outside-rest p place (size_of tree) (sizes_of trees) outside))
        ∙ both_if (parent == p) (reckoned tree leaves) (all_reckoned trees leaves) counts

  mutual
    pub tree-settled : (place : ℕ) (parent : Option ℕ) (tree : AwaitTree Leaf) → Settling None Pending place (flat_at handle leaves place parent tree)
    tree-settled place parent (Single leaf) = (refl, tt)
    tree-settled place parent (Combined combinator trees) = (
      inner-node combinator (counts_of (all_reckoned trees leaves))
          ∙ sym (trees-tally place (place + 1) place trees no_counts (inl (omega arith))
          ∙ ap (λ (b : Bool). if b then counted_all (all_reckoned trees leaves) no_counts else no_counts) (eq-eqb place place refl)),
      trees-settled (place + 1) place trees (omega arith),
    )

    pub trees-settled : (place parent : ℕ) (trees : AwaitTrees Leaf) → parent < place → Settling None Pending place (flats_at handle leaves place parent trees)
    trees-settled place parent no_trees before = tt
    trees-settled place parent (and_trees tree trees) before =
        let long = flat-length place (Some parent) tree in
        settling-append place (flat_at handle leaves place (Some parent) tree) (flats_at handle leaves (place + size_of tree) parent trees)
        (tree-settled place (Some parent) tree)
        (subst (λ (n : ℕ). Settling None Pending (place + n) (flats_at handle leaves (place + size_of tree) parent trees)) (sym long)
        (trees-settled (place + size_of tree) parent trees (omega (arith, before))))
        (λ p counts le lt. trees-tally p (place + size_of tree) parent trees counts (inl (omega (arith, lt, long)))
        ∙ ap (λ (b : Bool). if b then counted_all (all_reckoned trees leaves) counts else counts) (ne_eqb parent p (λ e. absurd (omega (arith, e, before, le)))))

  mutual
    tree-ordered : (place : ℕ) (parent : Option ℕ) (tree : AwaitTree Leaf) → StandsBefore parent place → Ordered place (flat_at handle leaves place parent tree)
    tree-ordered place parent (Single leaf) before = (before, tt)
    tree-ordered place parent (Combined combinator trees) before = (before, trees-ordered (place + 1) place trees (omega arith))

    trees-ordered : (place parent : ℕ) (trees : AwaitTrees Leaf) → parent < place → Ordered place (flats_at handle leaves place parent trees)
    trees-ordered place parent no_trees before = tt
    trees-ordered place parent (and_trees tree trees) before =
        ordered-append place (flat_at handle leaves place (Some parent) tree) (flats_at handle leaves (place + size_of tree) parent trees)
        (tree-ordered place (Some parent) tree before)
        (subst (λ (n : ℕ). Ordered (place + n) (flats_at handle leaves (place + size_of tree) parent trees)) (sym (flat-length place (Some parent) tree))
        (trees-ordered (place + size_of tree) parent trees (omega (arith, before))))

  pub flat-ordered : (tree : AwaitTree Leaf) → IsOrdered (flat_at handle leaves 0 None tree)
  flat-ordered tree = λ i node there. ordered-at 0 (flat_at handle leaves 0 None tree) i i node (omega arith) (tree-ordered 0 None tree refl) there

-- two vectors with the same bare nodes that count their children are the same
pub same-settled : (place : ℕ) (xs ys : List FlatNode) → map bare xs ≡ map bare ys → Settling None Pending place xs → Settling None Pending place ys → xs ≡ ys
same-settled place [] [] same left right = refl
same-settled place [] (y ∷ ys) same left right = cc
same-settled place (x ∷ xs) [] same left right = cc
same-settled place (x ∷ xs) (y ∷ ys) same left right =
    let others : map bare xs ≡ map bare ys = cc in
    let rest : xs ≡ ys = same-settled (place + 1) xs ys others left.1 right.1 in
    let here : bare x ≡ bare y = cc in
    ap₂ (λ (n : FlatNode) (ns : List FlatNode). n ∷ ns) (same-node x y here (left.0 ∙ ap (λ (ns : List FlatNode). tally place ns no_counts) rest ∙ sym right.0)) rest
  where
    by_kind : (kind : Kind) (a b : Counts) → leaf_counts kind a ≡ leaf_counts kind b → inner_counts kind a ≡ inner_counts kind b → a ≡ b
    by_kind (kinds.Leaf handle) a b leaf inner = leaf
    by_kind kinds.Unknown a b leaf inner = inner
    by_kind kinds.FirstCompleted a b leaf inner = inner
    by_kind kinds.AllCompleted a b leaf inner = inner
    by_kind kinds.FirstSucceededOrAllFailed a b leaf inner = inner
    by_kind kinds.AllSucceededOrFirstFailed a b leaf inner = inner
    by_kind (kinds.AtLeast required) a b leaf inner = inner

    node : Kind → Option ℕ → Counts → FlatNode
    node kind parent counts = record { kind = kind; parent = parent; counts = counts }

    same-node : (x y : FlatNode) → bare x ≡ bare y → inner_counts x.kind x.counts ≡ inner_counts y.kind y.counts → x ≡ y
    same-node x y same inner =
        let kinds_same : x.kind ≡ y.kind = ap (λ (n : FlatNode). n.kind) same in
        let parents : x.parent ≡ y.parent = ap (λ (n : FlatNode). n.parent) same in
        let leaf : leaf_counts x.kind x.counts ≡ leaf_counts y.kind y.counts = ap (λ (n : FlatNode). n.counts) same in
        let counts : x.counts ≡ y.counts = by_kind x.kind x.counts y.counts
        (leaf ∙ ap (λ (k : Kind). leaf_counts k y.counts) (sym kinds_same)) (inner ∙ ap (λ (k : Kind). inner_counts k y.counts) (sym kinds_same)) in
        λ i. record { kind = kinds_same i; parent = parents i; counts = counts i }
