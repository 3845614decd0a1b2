-- What is read from the end stands in front.
use Rattle.std.proofs.Common.{◌≡◌, refl, sym, ap, ap₂, ◌∙◌, ℕ, zero, suc, ◌-◌, ◌<◌, ◌≤◌, arith, Bool, true, false, if◌then◌else◌, List, [], ◌∷◌, ◌++◌, length, map, take, drop, get_or}
use Rattle.std.proofs.lemmas.List.{drop_more, drop_all}
use Rattle.journal_model.specs.AwaitTree.{AwaitTree, AwaitState, is_completed, is_awake}
use Rattle.journal_model.specs.Future.{tree_of, trees_from}
use Rattle.journal_model.specs.PrunedTrees.{pruned}
use Rattle.journal_model.specs.declared.future.UnresolvedFuture.{UnresolvedFuture}
use Rattle.vm_flat_trees.specs.declared.node.FlatNode.{FlatNode}
use Rattle.vm_flat_trees.specs.Counts.{lowered_kind}
use Rattle.vm_flat_trees.specs.Flat.{combined, pending_before, read_pending, read_node, children_in, node_state, flat_of}
use Rattle.vm_flat_trees.proofs.Reading.{pending-flat}

pub taken-all : (xs : List UnresolvedFuture) (i many : ℕ) → drop i xs ≡ [] → i ≤ many → (take i xs ≡ take many xs) × ([] ≡ drop many xs)
taken-all [] zero zero none le = (refl, refl)
taken-all [] zero (suc many) none le = (refl, refl)
taken-all [] (suc i) zero none le = absurd (omega (arith, le))
taken-all [] (suc i) (suc many) none le = (refl, refl)
taken-all (x ∷ xs) zero many none le = cc
taken-all (x ∷ xs) (suc i) zero none le = absurd (omega (arith, le))
taken-all (x ∷ xs) (suc i) (suc many) none le =
    let (a, b) = taken-all xs i many none (omega (arith, le)) in (ap (λ (ns : List UnresolvedFuture). x ∷ ns) a, b)

pub take-one : (xs : List UnresolvedFuture) (i : ℕ) (x : UnresolvedFuture) (rest : List UnresolvedFuture) → drop i xs ≡ x ∷ rest
    → (take i xs ++ x ∷ [] ≡ take (suc i) xs) × (rest ≡ drop (suc i) xs)
take-one [] zero x rest e = cc
take-one [] (suc i) x rest e = cc
take-one (y ∷ ys) zero x rest e = let is : y ≡ x = cc in let others : ys ≡ rest = cc in (ap (λ (n : UnresolvedFuture). n ∷ []) (sym is), sym others)
take-one (y ∷ ys) (suc i) x rest e = let (a, b) = take-one ys i x rest e in (ap (λ (ns : List UnresolvedFuture). y ∷ ns) a, b)

map-take : (xs : List UnresolvedFuture) (n : ℕ) → map tree_of (take n xs) ≡ take n (map tree_of xs)
map-take xs zero = refl
map-take [] (suc n) = refl
map-take (x ∷ xs) (suc n) = ap (λ (ts : List (AwaitTree ℕ)). tree_of x ∷ ts) (map-take xs n)

map-drop : (xs : List UnresolvedFuture) (n : ℕ) → map tree_of (drop n xs) ≡ drop n (map tree_of xs)
map-drop xs zero = refl
map-drop [] (suc n) = refl
map-drop (x ∷ xs) (suc n) = map-drop xs n

one-back : (nodes : List FlatNode) (place : ℕ) (node other : FlatNode) → 0 < place → place ≤ length nodes → node ≡ get_or nodes (place - 1) other → drop (place - 1) nodes ≡ node ∷ drop place nodes
one-back nodes place node other above within is =
    let below : place - 1 < length nodes = omega (arith, above, within) in
    drop_more nodes (place - 1) other below
    ∙ ap₂ (λ (n : FlatNode) (p : ℕ). n ∷ drop p nodes) (sym is) (omega (arith, above))

pub goes-back : (nodes : List FlatNode) (place : ℕ) (node other : FlatNode) → 0 < place → place ≤ length nodes → node ≡ get_or nodes (place - 1) other
    → read_pending (drop (place - 1) nodes) ≡ pending_before node (read_pending (drop place nodes))
goes-back nodes place node other above within is = ap read_pending (one-back nodes place node other above within is)

pub passes-one : (node : FlatNode) (trees : List (AwaitTree ℕ)) → is_completed (node_state node) ≡ true → trees ≡ pending_before node trees
passes-one node trees completed = sym (ap (λ (b : Bool). if b then trees else read_node (lowered_kind node.kind node.counts) node.counts.pending trees) completed)

pub reads-one : (node : FlatNode) (futures taken rest after : List UnresolvedFuture) (made : UnresolvedFuture) (many : ℕ)
    → is_completed (node_state node) ≡ false → many ≡ children_in (lowered_kind node.kind node.counts) node.counts.pending → taken ≡ take many futures → rest ≡ drop many futures
    → tree_of made ≡ combined (lowered_kind node.kind node.counts) (trees_from (map tree_of taken)) → after ≡ made ∷ rest → map tree_of after ≡ pending_before node (map tree_of futures)
reads-one node futures taken rest after made many waits is_many is_taken is_rest is_made is_after =
    ap (map tree_of) is_after
    ∙ ap₂ (λ (t : AwaitTree ℕ) (ts : List (AwaitTree ℕ)). t ∷ ts)
    (is_made ∙ ap (λ (ts : List (AwaitTree ℕ)). combined (lowered_kind node.kind node.counts) (trees_from ts)) (ap (map tree_of) is_taken ∙ map-take futures many ∙ ap (λ (n : ℕ). take n (map tree_of futures)) is_many))
    (ap (map tree_of) is_rest ∙ map-drop futures many ∙ ap (λ (n : ℕ). drop n (map tree_of futures)) is_many)
    ∙ sym (ap (λ (b : Bool). if b then map tree_of futures else read_node (lowered_kind node.kind node.counts) node.counts.pending (map tree_of futures)) waits)

pub none-read : (nodes : List FlatNode) (place : ℕ) → length nodes ≤ place → [] ≡ read_pending (drop place nodes)
none-read nodes place end = ap read_pending (sym (drop_all place nodes end))

pub first-left : (nodes : List FlatNode) (futures rest : List UnresolvedFuture) (first : UnresolvedFuture) → map tree_of futures ≡ read_pending nodes → futures ≡ first ∷ rest
    → (tree : AwaitTree ℕ) (leaves : ℕ → AwaitState) → nodes ≡ flat_of tree leaves → is_awake tree leaves ≡ false → tree_of first ≡ pruned tree leaves
first-left nodes futures rest first so is tree leaves flat asleep =
    let e : tree_of first ∷ map tree_of rest ≡ pruned tree leaves ∷ [] = ap (map tree_of) (sym is) ∙ so ∙ ap read_pending flat ∙ pending-flat tree leaves asleep in cc

pub none-left_then : (nodes : List FlatNode) (futures : List UnresolvedFuture) (other : UnresolvedFuture) → map tree_of futures ≡ read_pending nodes → futures ≡ []
    → (tree : AwaitTree ℕ) (leaves : ℕ → AwaitState) → nodes ≡ flat_of tree leaves → is_awake tree leaves ≡ false → tree_of other ≡ pruned tree leaves
none-left_then nodes futures other so is tree leaves flat asleep =
    let e : ◌≡◌ {A = List (AwaitTree ℕ)} [] (pruned tree leaves ∷ []) = ap (map tree_of) (sym is) ∙ so ∙ ap read_pending flat ∙ pending-flat tree leaves asleep in cc
