-- The children of a future, and their sizes.
use Rattle.std.proofs.Common.{◌≡◌, ap, ℕ, zero, suc, ◌<◌, ◌≤◌, arith, List, [], ◌∷◌, map, length, get_or}
use Rattle.journal_model.specs.AwaitTree as Trees
use Rattle.journal_model.specs.Future.{trees_from, node, tree_of}
use Rattle.journal_model.specs.declared.future.UnresolvedFuture.{UnresolvedFuture}
use Rattle.protocol_trees.proofs.Forests.{tree_size, trees_size}

-- a child is smaller than its node
child_within : (children : List UnresolvedFuture) (i : ℕ) (child : UnresolvedFuture) → i < length children → child ≡ get_or children i child → tree_size (tree_of child) ≤ trees_size (trees_from (map tree_of children))
child_within [] i child within is = absurd (omega (arith, within))
child_within (first ∷ children) zero child within is = let same : tree_size (tree_of child) ≡ tree_size (tree_of first) = ap (λ (f : UnresolvedFuture). tree_size (tree_of f)) is in omega (arith, same)
child_within (first ∷ children) (suc i) child within is = let rest = child_within children i child (omega (arith, within)) is in omega (arith, rest)

pub child_is_smaller : (combinator : Trees.Combinator) (whole : UnresolvedFuture) (children : List UnresolvedFuture) (i : ℕ) (child : UnresolvedFuture)
    → tree_of whole ≡ node combinator (map tree_of children) → i < length children → child ≡ get_or children i child → tree_size (tree_of child) < tree_size (tree_of whole)
child_is_smaller combinator whole children i child opened within is =
    let size : tree_size (tree_of whole) ≡ suc (trees_size (trees_from (map tree_of children))) = ap tree_size opened in
    let inside = child_within children i child within is in
    omega (arith, size, inside)
