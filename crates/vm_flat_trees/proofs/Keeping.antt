-- A tree that is awake stays so.
use Rattle.std.proofs.Common.{◌≡◌, refl, ℕ, Bool, true, false, if◌then◌else◌, ◌⊎◌, inl, inr}
use Rattle.journal_model.specs.AwaitTree.{AwaitState, Pending, Succeeded, Failed, AwaitTree, is_awake, is_completed}
use Rattle.journal_model.specs.PrunedTrees.{earlier_or_later}
use Rattle.journal_laws.proofs.Leaving.{awake-more}

pub awake-later : (tree : AwaitTree ℕ) (leaves later : ℕ → AwaitState) → is_awake tree leaves ≡ true → is_awake tree (earlier_or_later leaves later) ≡ true
awake-later tree leaves later awake = awake-more leaves (earlier_or_later leaves later) (λ leaf. stays leaf) tree awake
  where
    is-pending : (s : AwaitState) → is_completed s ≡ false → s ≡ Pending
    is-pending Pending e = refl
    is-pending Succeeded e = cc
    is-pending Failed e = cc

    stays : (leaf : ℕ) → (leaves leaf ≡ Pending) ⊎ (earlier_or_later leaves later leaf ≡ leaves leaf)
    stays leaf = by_cases (is_completed (leaves leaf)) refl
      where
        by_cases : (b : Bool) → is_completed (leaves leaf) ≡ b → (leaves leaf ≡ Pending) ⊎ ((if b then leaves leaf else later leaf) ≡ leaves leaf)
        by_cases true e = inr refl
        by_cases false e = inl (is-pending (leaves leaf) e)
