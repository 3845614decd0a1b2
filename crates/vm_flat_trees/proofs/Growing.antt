-- A flat vector grows at its end.
use Rattle.std.proofs.Common.{◌≡◌, refl, sym, ap, ap₂, ◌∙◌, ℕ, zero, suc, ◌+◌, ◌<◌, ◌≤◌, arith, List, [], ◌∷◌, ◌++◌, length, map, take, append_assoc, Option, Some, get_or, slice_set}
use Rattle.std.proofs.lemmas.List.{append-nil, set_at, length-append, take_more, map-append, take_all}
use Rattle.journal_model.specs.AwaitTree as Trees
use Rattle.journal_model.specs.AwaitTree.{AwaitState, Pending, Succeeded, Failed, AwaitTree, AwaitTrees, Single, Combined, no_trees, and_trees}
use Rattle.journal_model.specs.Future.{tree_of, trees_from, node}
use Rattle.journal_model.specs.declared.future.UnresolvedFuture.{UnresolvedFuture}
use Rattle.vm_flat_trees.specs.declared.node.Kind.{Kind}
use Rattle.vm_flat_trees.specs.declared.node.Counts.{Counts}
use Rattle.vm_flat_trees.specs.declared.node.FlatNode.{FlatNode}
use Rattle.vm_flat_trees.specs.Counts.{no_counts, child_counted, counts_of, state_by, node_kind}
use Rattle.vm_flat_trees.specs.Flat.{size_of, sizes_of, reckoned, all_reckoned, flat_at, flats_at, all_counted}
use Rattle.vm_flat_trees.proofs.Reading.{many-counted}
use Rattle.vm_flat_trees.proofs.Standing.{flats-length}

counted-comm : (a b : AwaitState) (counts : Counts) → child_counted a (child_counted b counts) ≡ child_counted b (child_counted a counts)
counted-comm Pending Pending counts = refl
counted-comm Pending Succeeded counts = refl
counted-comm Pending Failed counts = refl
counted-comm Succeeded Pending counts = refl
counted-comm Succeeded Succeeded counts = refl
counted-comm Succeeded Failed counts = refl
counted-comm Failed Pending counts = refl
counted-comm Failed Succeeded counts = refl
counted-comm Failed Failed counts = refl

counted-last : (states : List AwaitState) (state : AwaitState) → counts_of (states ++ state ∷ []) ≡ child_counted state (counts_of states)
counted-last [] state = refl
counted-last (s ∷ states) state = ap (child_counted s) (counted-last states state) ∙ counted-comm s state (counts_of states)

abbrev same : ℕ → ℕ
same handle = handle

abbrev pub root_of : Kind → Option ℕ → Counts → FlatNode
root_of kind parent counts = record { kind = kind; parent = parent; counts = counts }

module _ (leaves : ℕ → AwaitState) where
  flats-last : (place parent : ℕ) (trees : List (AwaitTree ℕ)) (tree : AwaitTree ℕ) (at : ℕ) → at ≡ place + sizes_of (trees_from trees)
      → flats_at (λ handle. handle) leaves place parent (trees_from (trees ++ tree ∷ []))
      ≡ flats_at (λ handle. handle) leaves place parent (trees_from trees) ++ flat_at (λ handle. handle) leaves at (Some parent) tree
  flats-last place parent [] tree at is =
      append-nil (flat_at (λ handle. handle) leaves place (Some parent) tree) ∙ ap (λ (p : ℕ). flat_at (λ handle. handle) leaves p (Some parent) tree) (omega (arith, is))
  flats-last place parent (t ∷ trees) tree at is =
      ap (λ (ns : List FlatNode). flat_at (λ handle. handle) leaves place (Some parent) t ++ ns) (flats-last (place + size_of t) parent trees tree at (omega (arith, is)))
      ∙ sym (append_assoc (flat_at (λ handle. handle) leaves place (Some parent) t) (flats_at (λ handle. handle) leaves (place + size_of t) parent (trees_from trees)) (flat_at (λ handle. handle) leaves at (Some parent) tree))

  reckoned-last : (trees : List (AwaitTree ℕ)) (tree : AwaitTree ℕ) → all_reckoned (trees_from (trees ++ tree ∷ [])) leaves ≡ all_reckoned (trees_from trees) leaves ++ reckoned tree leaves ∷ []
  reckoned-last [] tree = refl
  reckoned-last (t ∷ trees) tree = ap (λ (states : List AwaitState). reckoned t leaves ∷ states) (reckoned-last trees tree)

  many-reckoned : (trees : List (AwaitTree ℕ)) → length (all_reckoned (trees_from trees) leaves) ≡ length trees
  many-reckoned [] = refl
  many-reckoned (t ∷ trees) = ap suc (many-reckoned trees)

  -- the nodes of so many children are there
  pub record Grown (old : List FlatNode) (kind : Kind) (parent : Option ℕ) (trees : List (AwaitTree ℕ)) (nodes : List FlatNode) (counts : Counts) : Type 0 where
    pub nodes_are : nodes ≡ old ++ root_of kind parent no_counts ∷ flats_at (λ handle. handle) leaves (length old + 1) (length old) (trees_from trees)
    pub counts_are : counts ≡ counts_of (all_reckoned (trees_from trees) leaves)

  open-length : (place parent : ℕ) (trees : List (AwaitTree ℕ)) → length (flats_at (λ handle. handle) leaves place parent (trees_from trees)) ≡ sizes_of (trees_from trees)
  open-length place parent trees = flats-length (λ handle. handle) leaves place parent (trees_from trees)

  pub grown-none : (old nodes : List FlatNode) (kind : Kind) (parent : Option ℕ) (counts root_counts : Counts) → counts ≡ no_counts → root_counts ≡ no_counts → nodes ≡ old ++ root_of kind parent root_counts ∷ []
      → Grown old kind parent [] nodes counts
  grown-none old nodes kind parent counts root_counts none root_none are = record {
    nodes_are = are ∙ ap (λ (c : Counts). old ++ root_of kind parent c ∷ []) root_none;
    counts_are = none;
  }

  pub grown-more : (old : List FlatNode) (kind : Kind) (parent : Option ℕ) (trees : List (AwaitTree ℕ)) (nodes : List FlatNode) (counts : Counts) (tree : AwaitTree ℕ) (after : List FlatNode) (state : AwaitState) (more : Counts)
      → Grown old kind parent trees nodes counts → after ≡ nodes ++ flat_at (λ handle. handle) leaves (length nodes) (Some (length old)) tree → state ≡ reckoned tree leaves → more ≡ child_counted state counts
      → Grown old kind parent (trees ++ tree ∷ []) after more
  grown-more old kind parent trees nodes counts tree after state more grown is_after is_state is_more =
      let others = flats_at (λ handle. handle) leaves (length old + 1) (length old) (trees_from trees) in
      let long : length nodes ≡ (length old + 1) + sizes_of (trees_from trees) =
      ap length grown.nodes_are ∙ length-append old (root_of kind parent no_counts ∷ others) ∙ omega (arith, open-length (length old + 1) (length old) trees) in
      record {
        nodes_are = is_after ∙ ap (λ (ns : List FlatNode). ns ++ flat_at (λ handle. handle) leaves (length nodes) (Some (length old)) tree) grown.nodes_are
            ∙ append_assoc old (root_of kind parent no_counts ∷ others) (flat_at (λ handle. handle) leaves (length nodes) (Some (length old)) tree)
            ∙ ap (λ (ns : List FlatNode). old ++ root_of kind parent no_counts ∷ ns) (sym (flats-last (length old + 1) (length old) trees tree (length nodes) long));
        counts_are = is_more ∙ ap₂ child_counted is_state grown.counts_are ∙ sym (ap counts_of (reckoned-last trees tree) ∙ counted-last (all_reckoned (trees_from trees) leaves) (reckoned tree leaves));
      }

  pub grown-few : (old : List FlatNode) (kind : Kind) (parent : Option ℕ) (trees : List (AwaitTree ℕ)) (nodes : List FlatNode) (counts : Counts) → Grown old kind parent trees nodes counts
      → counts.pending + (counts.succeeded + counts.failed) ≡ length trees
  grown-few old kind parent trees nodes counts grown = ap all_counted grown.counts_are ∙ many-counted (all_reckoned (trees_from trees) leaves) ∙ many-reckoned trees

  pub grown-long : (old : List FlatNode) (kind : Kind) (parent : Option ℕ) (trees : List (AwaitTree ℕ)) (nodes : List FlatNode) (counts : Counts) → Grown old kind parent trees nodes counts → length old < length nodes
  grown-long old kind parent trees nodes counts grown =
      let long = ap length grown.nodes_are ∙ length-append old (root_of kind parent no_counts ∷ flats_at (λ handle. handle) leaves (length old + 1) (length old) (trees_from trees)) in
      omega (arith, long)

  -- the root is written, and the tree stands there
  pub grown-all : (old : List FlatNode) (kind : Kind) (parent : Option ℕ) (trees : List (AwaitTree ℕ)) (nodes after : List FlatNode) (counts : Counts) (combinator : Trees.Combinator) (tree : AwaitTree ℕ) → Grown old kind parent trees nodes counts
      → node_kind combinator ≡ kind → tree ≡ node combinator trees → after ≡ slice_set nodes (length old) (root_of kind parent counts)
      → after ≡ old ++ flat_at (λ handle. handle) leaves (length old) parent tree
  grown-all old kind parent trees nodes after counts combinator tree grown is_kind is_tree is_after =
      is_after ∙ ap (λ (ns : List FlatNode). slice_set ns (length old) (root_of kind parent counts)) grown.nodes_are
      ∙ set_at old (root_of kind parent no_counts) (flats_at (λ handle. handle) leaves (length old + 1) (length old) (trees_from trees)) (root_of kind parent counts) (length old) refl
      ∙ ap₂ (λ (k : Kind) (c : Counts). old ++ root_of k parent c ∷ flats_at (λ handle. handle) leaves (length old + 1) (length old) (trees_from trees)) (sym is_kind) grown.counts_are
      ∙ ap (λ (t : AwaitTree ℕ). old ++ flat_at (λ handle. handle) leaves (length old) parent t) (sym is_tree)

  pub grown-state : (old : List FlatNode) (kind : Kind) (parent : Option ℕ) (trees : List (AwaitTree ℕ)) (nodes : List FlatNode) (counts : Counts) (combinator : Trees.Combinator) (tree : AwaitTree ℕ) → Grown old kind parent trees nodes counts
      → node_kind combinator ≡ kind → tree ≡ node combinator trees → state_by kind counts ≡ reckoned tree leaves
  grown-state old kind parent trees nodes counts combinator tree grown is_kind is_tree =
      ap₂ state_by (sym is_kind) grown.counts_are ∙ ap (λ (t : AwaitTree ℕ). reckoned t leaves) (sym is_tree)

-- a child is smaller than its node
small-child : (trees : List (AwaitTree ℕ)) (i : ℕ) (other : AwaitTree ℕ) → i < length trees → size_of (get_or trees i other) ≤ sizes_of (trees_from trees)
small-child [] i other below = absurd (omega (arith, below))
small-child (t ∷ trees) zero other below = omega arith
small-child (t ∷ trees) (suc i) other below = omega (arith, small-child trees i other (omega (arith, below)))

map-get : (xs : List UnresolvedFuture) (i : ℕ) (child : UnresolvedFuture) → i < length xs → child ≡ get_or xs i child → get_or (map tree_of xs) i (tree_of child) ≡ tree_of child
map-get [] i child below is = absurd (omega (arith, below))
map-get (x ∷ xs) zero child below is = ap tree_of (sym is)
map-get (x ∷ xs) (suc i) child below is = map-get xs i child (omega (arith, below)) is

map-long : (xs : List UnresolvedFuture) → length (map tree_of xs) ≡ length xs
map-long [] = refl
map-long (x ∷ xs) = ap suc (map-long xs)

pub child-smaller : (combinator : Trees.Combinator) (tree : AwaitTree ℕ) (children : List UnresolvedFuture) (i : ℕ) (child : UnresolvedFuture) → tree ≡ node combinator (map tree_of children) → i < length children
    → child ≡ get_or children i child → size_of (tree_of child) < size_of tree
child-smaller combinator tree children i child is below at =
    let small = small-child (map tree_of children) i (tree_of child) (omega (arith, below, map-long children)) in
    let same_size = ap size_of (map-get children i child below at) in
    let whole = ap size_of is in
    omega (arith, small, same_size, whole)

pub next-child : (children : List UnresolvedFuture) (i : ℕ) (child : UnresolvedFuture) → i < length children → child ≡ get_or children i child
    → map tree_of (take i children) ++ tree_of child ∷ [] ≡ map tree_of (take (i + 1) children)
next-child children i child below is =
    sym (ap (map tree_of) (take_more children i child below ∙ ap (λ (f : UnresolvedFuture). take i children ++ f ∷ []) (sym is)) ∙ map-append tree_of (take i children) (child ∷ []))

pub all-children : (children : List UnresolvedFuture) (i : ℕ) → length children ≤ i → map tree_of (take i children) ≡ map tree_of children
all-children children i end = ap (map tree_of) (take_all i children end)

pub few-children : (children : List UnresolvedFuture) (i : ℕ) → i ≤ length children → length (map tree_of (take i children)) ≤ i
few-children [] i le = omega (arith, few-none i)
  where
    few-none : (i : ℕ) → length (map tree_of (take i [])) ≤ i
    few-none zero = omega arith
    few-none (suc i) = omega arith
few-children (x ∷ xs) zero le = omega arith
few-children (x ∷ xs) (suc i) le = omega (arith, few-children xs i (omega (arith, le)))
