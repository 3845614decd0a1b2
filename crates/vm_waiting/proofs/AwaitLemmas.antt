-- Which futures wait for nothing, and the tree that is awaited where a cancellation ends the await too.
use Rattle.std.proofs.Common.{◌≡◌, refl, sym, ap, ◌∙◌, ◌↔◌, ℕ, Bool, true, false, List, [], ◌∷◌, map}
use Rattle.std.specs.Prelude.{IsTrue}
use Rattle.journal_model.specs.AwaitTree as Trees
use Rattle.journal_model.specs.Future.{tree_of, node}
use Rattle.journal_model.specs.Await.{with_cancellation}
use Rattle.journal_model.specs.declared.future.UnresolvedFuture.{UnresolvedFuture}
use Rattle.journal_model.specs.declared.future.UnresolvedFuture.TheVariants.{Single, FirstCompleted}
use Rattle.journal_model.proofs.TreeLemmas.{tree_of-Single, tree_of-FirstCompleted}
use Rattle.vm_waiting.specs.AwaitSteps.{awaits_nothing}

by_children : (children : List UnresolvedFuture) (empty : Bool) → (IsTrue empty ↔ (children ≡ [])) → empty ≡ awaits_nothing (node Trees.FirstCompleted (map tree_of children))
by_children [] true is = refl
by_children [] false is = cc (is.1 refl)
by_children (child ∷ children) true is = cc (is.0 refl)
by_children (child ∷ children) false is = refl

-- one of the first completed, where it has no children
pub nothing_where_empty : (future : UnresolvedFuture) (children : List UnresolvedFuture) (empty : Bool) → future ≡ FirstCompleted children → (IsTrue empty ↔ (children ≡ []))
    → empty ≡ awaits_nothing (tree_of future)
nothing_where_empty future children empty opened is =
    by_children children empty is ∙ ap awaits_nothing (sym (ap tree_of opened ∙ tree_of-FirstCompleted children))

where_nothing : (tree : Trees.AwaitTree ℕ) → awaits_nothing tree ≡ true → node Trees.FirstCompleted (Trees.Single 1 ∷ []) ≡ with_cancellation tree
where_nothing (Trees.Single handle) h = cc
where_nothing (Trees.Combined Trees.FirstCompleted Trees.no_trees) h = refl
where_nothing (Trees.Combined Trees.FirstCompleted (Trees.and_trees tree trees)) h = cc
where_nothing (Trees.Combined _ trees) h = cc

where_something : (tree : Trees.AwaitTree ℕ) → awaits_nothing tree ≡ false → node Trees.FirstCompleted (tree ∷ Trees.Single 1 ∷ []) ≡ with_cancellation tree
where_something (Trees.Single handle) h = refl
where_something (Trees.Combined Trees.FirstCompleted Trees.no_trees) h = cc
where_something (Trees.Combined Trees.FirstCompleted (Trees.and_trees tree trees)) h = refl
where_something (Trees.Combined _ trees) h = refl

pub alone : (tree : Trees.AwaitTree ℕ) (children : List UnresolvedFuture) → awaits_nothing tree ≡ true → children ≡ Single 1 ∷ [] → tree_of (FirstCompleted children) ≡ with_cancellation tree
alone tree children h is =
    ap (λ (fs : List UnresolvedFuture). tree_of (FirstCompleted fs)) is
    ∙ tree_of-FirstCompleted (Single 1 ∷ [])
    ∙ ap (λ (t : Trees.AwaitTree ℕ). node Trees.FirstCompleted (t ∷ [])) (tree_of-Single 1)
    ∙ where_nothing tree h

pub beside : (future : UnresolvedFuture) (children : List UnresolvedFuture) → awaits_nothing (tree_of future) ≡ false → children ≡ future ∷ Single 1 ∷ []
    → tree_of (FirstCompleted children) ≡ with_cancellation (tree_of future)
beside future children h is =
    ap (λ (fs : List UnresolvedFuture). tree_of (FirstCompleted fs)) is
    ∙ tree_of-FirstCompleted (future ∷ Single 1 ∷ [])
    ∙ ap (λ (t : Trees.AwaitTree ℕ). node Trees.FirstCompleted (tree_of future ∷ t ∷ [])) (tree_of-Single 1)
    ∙ where_something (tree_of future) h
