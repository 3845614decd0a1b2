-- How much there is of futures: what lets go of them comes to an end.
use Rattle.std.proofs.Common.{◌≡◌, refl, sym, ap, ◌∙◌, subst, arith, ℕ, zero, suc, ◌+◌, ◌*◌, ◌<◌, ◌≤◌, ◌-◌, List, [], ◌∷◌, ◌++◌, length, map, take, slice_index_or, slice_set, ◌⊎◌, inl, inr, Option, Some, None}
use Rattle.std.proofs.lemmas.Nat.{mul-le}
use Rattle.journal_model.specs.AwaitTree as Trees
use Rattle.journal_model.specs.AwaitTree.{AwaitTree, AwaitTrees}
use Rattle.journal_model.specs.Future.{trees_from, tree_of, node}
use Rattle.journal_model.specs.declared.future.UnresolvedFuture.{UnresolvedFuture}
use Rattle.journal_model.specs.declared.future.UnresolvedFuture.TheVariants as Futures
use Rattle.journal_model.proofs.TreeLemmas.{tree_of-FirstCompleted, tree_of-AllCompleted, tree_of-FirstSucceededOrAllFailed, tree_of-AllSucceededOrFirstFailed, tree_of-Unknown, tree_of-AtLeast}

-- nodes and leaves
abbrev mutual
  pub size_of : {Leaf : Type 0} → AwaitTree Leaf → ℕ
  size_of (Trees.Single leaf) = 1
  size_of (Trees.Combined combinator children) = 1 + sizes_of children

  pub sizes_of : {Leaf : Type 0} → AwaitTrees Leaf → ℕ
  sizes_of Trees.no_trees = 0
  sizes_of (Trees.and_trees tree trees) = size_of tree + sizes_of trees

abbrev pub all_sizes : List UnresolvedFuture → ℕ
all_sizes [] = 0
all_sizes (future ∷ futures) = size_of (tree_of future) + all_sizes futures

abbrev pub sizes_beside : Option (List UnresolvedFuture) → ℕ
sizes_beside None = 0
sizes_beside (Some futures) = all_sizes futures

-- first what is left of all, then what is left of the one that is looked at
abbrev pub left_over : UnresolvedFuture → Option (List UnresolvedFuture) → ℕ
left_over future beside =
    (size_of (tree_of future) + sizes_beside beside) * (size_of (tree_of future) + sizes_beside beside) + size_of (tree_of future)

-- ---- the sizes of lists

sizes_from : (futures : List UnresolvedFuture) → sizes_of (trees_from (map tree_of futures)) ≡ all_sizes futures
sizes_from [] = refl
sizes_from (future ∷ futures) = ap (λ (n : ℕ). size_of (tree_of future) + n) (sizes_from futures)

-- a node is larger by one than its children together
node_size : (future : UnresolvedFuture) (combinator : Trees.Combinator) (children : List UnresolvedFuture) → tree_of future ≡ node combinator (map tree_of children)
    → size_of (tree_of future) ≡ 1 + all_sizes children
node_size future combinator children is = ap (λ (tree : AwaitTree ℕ). size_of tree) is ∙ ap (λ (n : ℕ). 1 + n) (sizes_from children)

some_size : {Leaf : Type 0} (tree : AwaitTree Leaf) → 1 ≤ size_of tree
some_size (Trees.Single leaf) = omega arith
some_size (Trees.Combined combinator children) = omega arith

one_more : (others : List UnresolvedFuture) (last : UnresolvedFuture) → all_sizes (others ++ last ∷ []) ≡ all_sizes others + size_of (tree_of last)
one_more [] last = omega arith
one_more (future ∷ others) last = omega (arith, one_more others last)

-- ---- the measure

-- less is left of all
fewer : (t u s r : ℕ) → u < t → s ≤ u → u * u + s < t * t + r
fewer t u s r less small =
    let grows : (u + 1) * (u + 1) ≤ t * t = mul-le (u + 1) (u + 1) t t (omega (arith, less)) (omega (arith, less)) in
    omega (arith, grows, small)

-- one of what is left beside is gone on with
pub next_left : (next last : UnresolvedFuture) (left others : List UnresolvedFuture) → left ≡ others ++ last ∷ [] → left_over last (Some others) < left_over next (Some left)
next_left next last left others is =
    let all : all_sizes left ≡ all_sizes others + size_of (tree_of last) = ap all_sizes is ∙ one_more others last in
    let some : 1 ≤ size_of (tree_of next) = some_size (tree_of next) in
    fewer (size_of (tree_of next) + all_sizes left) (size_of (tree_of last) + all_sizes others) (size_of (tree_of last)) (size_of (tree_of next)) (omega (arith, all, some)) (omega arith)

-- a node's last child is, and nothing is left beside
pub child_left : (next last : UnresolvedFuture) (children others : List UnresolvedFuture) → (combinator : Trees.Combinator) × (tree_of next ≡ node combinator (map tree_of children))
    → children ≡ others ++ last ∷ [] → left_over last (Some others) < left_over next None
child_left next last children others (combinator, is) split =
    let whole : size_of (tree_of next) ≡ 1 + all_sizes children = node_size next combinator children is in
    let all : all_sizes children ≡ all_sizes others + size_of (tree_of last) = ap all_sizes split ∙ one_more others last in
    fewer (size_of (tree_of next) + 0) (size_of (tree_of last) + all_sizes others) (size_of (tree_of last)) (size_of (tree_of next)) (omega (arith, all, whole)) (omega arith)

-- a node's last child is, and what is left beside stands in its place: as much is left of all, and less of what is looked at
pub exchange_left : (next last : UnresolvedFuture) (children left more : List UnresolvedFuture) → (combinator : Trees.Combinator) × (tree_of next ≡ node combinator (map tree_of children))
    → (others : List UnresolvedFuture) × ((children ≡ others ++ last ∷ []) × (more ≡ others ++ Futures.Unknown left ∷ [])) → left_over last (Some more) < left_over next (Some left)
exchange_left next last children left more (combinator, is) (others, (split, now)) =
    let whole : size_of (tree_of next) ≡ 1 + all_sizes children = node_size next combinator children is in
    let all : all_sizes children ≡ all_sizes others + size_of (tree_of last) = ap all_sizes split ∙ one_more others last in
    let after : all_sizes more ≡ all_sizes others + size_of (tree_of (Futures.Unknown left)) = ap all_sizes now ∙ one_more others (Futures.Unknown left) in
    let beside : size_of (tree_of (Futures.Unknown left)) ≡ 1 + all_sizes left = node_size (Futures.Unknown left) Trees.Unknown left (tree_of-Unknown left) in
    let same : size_of (tree_of last) + all_sizes more ≡ size_of (tree_of next) + all_sizes left = omega (arith, whole, all, after, beside) in
    let smaller : size_of (tree_of last) < size_of (tree_of next) = omega (arith, whole, all) in
    subst (λ (n : ℕ). n * n + size_of (tree_of last) < (size_of (tree_of next) + all_sizes left) * (size_of (tree_of next) + all_sizes left) + size_of (tree_of next)) (sym same)
    (omega (arith, smaller))

-- ---- as the loop finds it

abbrev pub HasChildren : UnresolvedFuture → List UnresolvedFuture → Type 0
HasChildren future children = (combinator : Trees.Combinator) × (tree_of future ≡ node combinator (map tree_of children))

pub pops_left : (next last : UnresolvedFuture) (beside : Option (List UnresolvedFuture)) (left others : List UnresolvedFuture)
    → beside ≡ Some left → left ≡ others ++ last ∷ [] → left_over last (Some others) < left_over next beside
pops_left next last beside left others is split =
    subst (λ (b : Option (List UnresolvedFuture)). left_over last (Some others) < left_over next b) (sym is) (next_left next last left others split)

pub pops_child : (next last : UnresolvedFuture) (beside : Option (List UnresolvedFuture)) (children others : List UnresolvedFuture)
    → beside ≡ None → HasChildren next children → children ≡ others ++ last ∷ [] → left_over last (Some others) < left_over next beside
pops_child next last beside children others is has split =
    subst (λ (b : Option (List UnresolvedFuture)). left_over last (Some others) < left_over next b) (sym is) (child_left next last children others has split)

pub exchanges : (next last : UnresolvedFuture) (beside : Option (List UnresolvedFuture)) (children left more : List UnresolvedFuture)
    → beside ≡ Some left → HasChildren next children
    → (others : List UnresolvedFuture) × ((children ≡ others ++ last ∷ []) × (more ≡ others ++ Futures.Unknown left ∷ [])) → left_over last (Some more) < left_over next beside
exchanges next last beside children left more is has split =
    subst (λ (b : Option (List UnresolvedFuture)). left_over last (Some more) < left_over next b) (sym is) (exchange_left next last children left more has split)

-- the children of a node, by its combinator
pub has_children : (future : UnresolvedFuture) (children : List UnresolvedFuture)
    → (future ≡ Futures.FirstCompleted children)
    ⊎ ((future ≡ Futures.AllCompleted children)
    ⊎ ((future ≡ Futures.FirstSucceededOrAllFailed children)
    ⊎ ((future ≡ Futures.AllSucceededOrFirstFailed children) ⊎ ((future ≡ Futures.Unknown children) ⊎ ((required : ℕ) × (future ≡ Futures.AtLeast required children))))))
    → HasChildren future children
has_children future children (inl is) = (Trees.FirstCompleted, ap tree_of is ∙ tree_of-FirstCompleted children)
has_children future children (inr (inl is)) = (Trees.AllCompleted, ap tree_of is ∙ tree_of-AllCompleted children)
has_children future children (inr (inr (inl is))) = (Trees.FirstSucceededOrAllFailed, ap tree_of is ∙ tree_of-FirstSucceededOrAllFailed children)
has_children future children (inr (inr (inr (inl is)))) = (Trees.AllSucceededOrFirstFailed, ap tree_of is ∙ tree_of-AllSucceededOrFirstFailed children)
has_children future children (inr (inr (inr (inr (inl is))))) = (Trees.Unknown, ap tree_of is ∙ tree_of-Unknown children)
has_children future children (inr (inr (inr (inr (inr (required, is)))))) = (Trees.AtLeast required, ap tree_of is ∙ tree_of-AtLeast required children)

-- ---- the last of a list that is not empty

last_split : {A : Type 0} (xs : List A) (at : ℕ) (x y : A) → suc at ≡ length xs → x ≡ slice_index_or xs at x → (xs ≡ take at xs ++ x ∷ []) × (slice_set xs at y ≡ take at xs ++ y ∷ [])
last_split [] at x y short is = absurd (omega (arith, short))
last_split (z ∷ []) zero x y short is = (λ i. sym is i ∷ [], refl)
last_split (z ∷ []) (suc at) x y short is = absurd (omega (arith, short))
last_split (z ∷ (w ∷ zs)) zero x y short is = absurd (omega (arith, short))
last_split (z ∷ (w ∷ zs)) (suc at) x y short is =
    let rest = last_split (w ∷ zs) at x y (omega (arith, short)) is in
    (λ i. z ∷ rest.0 i, λ i. z ∷ rest.1 i)

pub exchange_split : (futures items after : List UnresolvedFuture) (count : ℕ) (last put : UnresolvedFuture) → items ≡ futures → count ≡ length futures → 0 < length futures
    → last ≡ slice_index_or items (count - 1) last → after ≡ slice_set items (count - 1) put
    → (others : List UnresolvedFuture) × ((futures ≡ others ++ last ∷ []) × (after ≡ others ++ put ∷ []))
exchange_split futures items after count last put same counted some read written =
    let long : suc (count - 1) ≡ length items = omega (arith, counted, some, ap (λ (l : List UnresolvedFuture). length l) same) in
    let both = last_split items (count - 1) last put long read in
    (take (count - 1) items, (sym same ∙ both.0, written ∙ both.1))
