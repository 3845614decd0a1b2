-- The trees of single notifications.
use Rattle.std.proofs.Common.{◌≡◌, refl, ap, ℕ, List, [], ◌∷◌, map}
use Rattle.journal_model.specs.AwaitTree as Trees
use Rattle.journal_model.specs.Future.{tree_of}
use Rattle.journal_model.specs.declared.future.UnresolvedFuture.TheVariants.{Single}
use Rattle.journal_model.proofs.TreeLemmas.{tree_of-Single}

pub single_trees : (handles : List ℕ) → map tree_of (map Single handles) ≡ map Trees.Single handles
single_trees [] = refl
single_trees (handle ∷ handles) =
    rw (tree_of-Single handle) (ap (λ (trees : List (Trees.AwaitTree ℕ)). Trees.Single handle ∷ trees) (single_trees handles))
