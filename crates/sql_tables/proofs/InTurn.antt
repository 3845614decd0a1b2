-- Statements that are run in turn, and why one of them was refused.
use Rattle.std.proofs.Common.{ℕ, inl, inr, false, List, [], ◌∷◌, ◌++◌, Option, IsTrue, subst}
use Rattle.sqlite_trees.specs.Tree.{Trees}
use Rattle.sqlite.specs.declared.error.Error.{Error}
use Rattle.sqlite.specs.Effect.{Database}
use Rattle.sqlite.specs.State.{State, HasCleanDisk, Survives}
use Rattle.sqlite.specs.Steps.{FailsToCommit}
use Rattle.sql_tables.specs.Causes.{AreMade, AreRefused, IsCause, IsCauseToWrite, IsRefusedFor, Statement}
use Rattle.sql_tables.proofs.Causes.{cause_before, cause_later, failed_cause}

module _ (limit : Option ℕ) where
  pub made_then : (xs ys : List Statement) (a b c : Database) → AreMade limit xs a b → AreMade limit ys b c → AreMade limit (xs ++ ys) a c
  made_then [] ys a b c is then = subst (λ d. AreMade limit ys d c) is then
  made_then (x ∷ xs) ys a b c (tally, mid, first, more) then = (tally, mid, first, made_then xs ys mid b c more then)

  pub refused_then : (xs ys : List Statement) (a b : Database) (e : Error) → AreMade limit xs a b → AreRefused limit ys b e → AreRefused limit (xs ++ ys) a e
  refused_then [] ys a b e is then = subst (λ d. AreRefused limit ys d e) is then
  refused_then (x ∷ xs) ys a b e (tally, mid, first, more) then = inr (tally, mid, first, refused_then xs ys mid b e more then)

  pub refused_before : (xs ys : List Statement) (a : Database) (e : Error) → AreRefused limit xs a e → AreRefused limit (xs ++ ys) a e
  refused_before [] ys a e none = absurd none
  refused_before (x ∷ xs) ys a e (inl refused) = inl refused
  refused_before (x ∷ xs) ys a e (inr (tally, mid, first, more)) = inr (tally, mid, first, refused_before xs ys mid e more)

module _ (a b c : State) (C D : Trees → Type 0) (e : Error) (first : Survives a b C) (then : Survives b c D) where
  -- a cause of what comes later, behind what these made
  pub write_cause_later : (xs ys : List Statement) → (IsTrue b.is_open → IsTrue a.is_open × AreMade a.step_limit xs a.now b.now) → HasCleanDisk c → IsCauseToWrite ys b c e → IsCauseToWrite (xs ++ ys) a c e
  unfolding IsCauseToWrite
  write_cause_later xs ys made clean (inl cause) = inl (cause_later a b c C D e first then clean cause)
  write_cause_later xs ys made clean (inr (was, refused)) =
      inr ((made was).0, refused_then a.step_limit xs ys a.now b.now e (made was).1 (subst (λ (limit : Option ℕ). AreRefused limit ys b.now e) first.limit refused))

  -- a cause of what came before
  pub write_cause_before : (xs : List Statement) → IsCauseToWrite xs a b e → IsCauseToWrite xs a c e
  unfolding IsCauseToWrite
  write_cause_before xs (inl cause) = inl (cause_before a b c C D e first then cause)
  write_cause_before xs (inr refused) = inr refused

-- what some of them are refused for, all of them are
pub write_cause_more : (xs ys : List Statement) (a b : State) (e : Error) → IsCauseToWrite xs a b e → IsCauseToWrite (xs ++ ys) a b e
unfolding IsCauseToWrite
write_cause_more xs ys a b e (inl cause) = inl cause
write_cause_more xs ys a b e (inr (was, refused)) = inr (was, refused_before a.step_limit xs ys a.now e refused)

-- what a question is refused for, a change may be
pub cause_to_write : (statements : List Statement) (a b : State) (e : Error) → IsCause a b e → IsCauseToWrite statements a b e
unfolding IsCauseToWrite
cause_to_write statements a b e cause = inl cause

-- a statement that the rules never refuse is refused as a question is
pub unrefused : (one : Statement) (a b : State) (e : Error) → (IsTrue a.is_open → IsRefusedFor a.step_limit one a.now e → IsCause a b e) → IsCauseToWrite (one ∷ []) a b e → IsCause a b e
unfolding IsCauseToWrite
unrefused one a b e never (inl cause) = cause
unrefused one a b e never (inr (opened, inl refused)) = never opened refused
unrefused one a b e never (inr (opened, inr (tally, mid, first, none))) = absurd none

-- a commit inside a transaction is refused as a question is
pub commit_cause : (a b : State) (e : Error) → IsTrue a.in_transaction → FailsToCommit a b e → IsCause a b e
commit_cause a b e inside (inl fails) = failed_cause a b ⊥ e (λ no opened. no) fails
commit_cause a b e inside (inr (is, outside, same)) = let clash : IsTrue false = subst IsTrue outside inside in absurd cc
