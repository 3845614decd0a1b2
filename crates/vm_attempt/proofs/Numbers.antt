-- The numbers of successes that a future's tree asks for.
use Rattle.std.proofs.Common.{◌≡◌, ℕ, ◌-◌, ◌<◌, ◌≤◌, ◌^◌, arith, List, [], ◌∷◌, map}
use Rattle.std.specs.Prelude.{max}
use Rattle.std.specs.List.{AllByRecursion}
use Rattle.journal_model.specs.AwaitTree.{Combinator, AwaitTree, levels_of, most_levels}
use Rattle.journal_model.specs.Future.{trees_from, tree_of, node}
use Rattle.journal_model.specs.Spelling.{required_by}
use Rattle.journal_model.specs.declared.future.UnresolvedFuture.{UnresolvedFuture}
use Rattle.vm_request_laws.specs.Calls.{NumbersFit, AllNumbersFit}

-- so many levels are above the children of a node
abbrev pub FitsBelow : ℕ → UnresolvedFuture → Type 0
FitsBelow levels child = levels_of (tree_of child) < levels → NumbersFit (tree_of child)

-- a tree that is nested so deep at most
abbrev pub FitsWithin : ℕ → AwaitTree ℕ → Type 0
FitsWithin levels tree = levels_of tree ≤ levels → NumbersFit tree

own_below : (levels a b : ℕ) → max a b < levels → a < levels
own_below levels a b h = grind (arith)

others_below : (levels a b : ℕ) → max a b < levels → b < levels
others_below levels a b h = grind (arith)

all_fit : (levels : ℕ) (children : List UnresolvedFuture) → AllByRecursion (FitsBelow levels) children → most_levels (trees_from (map tree_of children)) < levels
    → AllNumbersFit (trees_from (map tree_of children))
all_fit levels [] h few = tt
all_fit levels (child ∷ children) h few =
    let own = own_below levels (levels_of (tree_of child)) (most_levels (trees_from (map tree_of children))) few in
    let others = others_below levels (levels_of (tree_of child)) (most_levels (trees_from (map tree_of children))) few in
    (h.0 own, all_fit levels children h.1 others)

pub node_fits : (levels : ℕ) (combinator : Combinator) (children : List UnresolvedFuture) → required_by combinator < 2 ^ 32 → AllByRecursion (FitsBelow levels) children
    → levels_of (node combinator (map tree_of children)) ≤ levels → NumbersFit (node combinator (map tree_of children))
node_fits levels combinator children small h few =
    let below : most_levels (trees_from (map tree_of children)) < levels = omega (arith, few) in
    (small, all_fit levels children h below)

-- none stand below the last level
pub none_below : (levels : ℕ) (children : List UnresolvedFuture) → levels ≡ 0 → AllByRecursion (FitsBelow levels) children
none_below levels [] none = tt
none_below levels (child ∷ children) none = (λ few. absurd (omega (arith, none, few)), none_below levels children none)

-- one that was looked at with one level less
pub looked_below : (levels : ℕ) (child : UnresolvedFuture) → (levels_of (tree_of child) ≤ levels - 1 → NumbersFit (tree_of child)) → FitsBelow levels child
looked_below levels child h few = h (omega (arith, few))
