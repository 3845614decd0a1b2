-- The cause of a statement that SQL's rules never refuse, as it is passed on, and over a longer way.
use Rattle.std.proofs.Common.{◌≡◌, sym, subst, arith, true, Result, Ok, Err, IfErr, IsErrAnd, IsTrue}
use Rattle.sqlite_trees.specs.Tree.{Trees}
use Rattle.sqlite_trees.specs.declared.store.Store.{Ghosts}
use Rattle.sqlite.specs.declared.error.Error.{Error}
use Rattle.sqlite.specs.Held.{Held, state}
use Rattle.sqlite.specs.State.{State, HasCleanDisk, Survives}
use Rattle.sqlite.specs.Steps.{FailsToCommit}
use Rattle.sqlite.proofs.StateLemmas.{survives_then}
use Rattle.sql_tables.specs.Causes.{IsCause, TellsErrorCause}
use Rattle.sql_tables.proofs.Causes.{cause_before, cause_later}
use Rattle.sql_tables.proofs.InTurn.{commit_cause}

-- two statements in turn, of which a crash knows nothing
pub survives_on : (a b c : State) → Survives a b (λ _. ⊥) → Survives b c (λ _. ⊥) → Survives a c (λ _. ⊥)
survives_on a b c one two = survives_then a b c (λ _. ⊥) (λ _. ⊥) (λ _. ⊥) (λ _ db none. none) (λ _ db none. none) one two

-- an error that is passed on
pub passed : {A : Type 0} (a b : State) (e : Error) (r : Result A Error) → IsErrAnd r (λ other. other ≡ e) → TellsErrorCause a b e → IfErr r (TellsErrorCause a b)
passed a b e (Ok x) gives tells = absurd gives
passed a b e (Err other) gives tells = subst (TellsErrorCause a b) (sym gives) tells

-- each error of a call
pub told_by : {A : Type 0} (a b : State) (r : Result A Error) (Why : Error → Type 0) → (HasCleanDisk b → IfErr r Why) → ((e : Error) → (HasCleanDisk b → Why e) → TellsErrorCause a b e) → IfErr r (TellsErrorCause a b)
told_by a b (Ok x) Why why tells = tt
told_by a b (Err e) Why why tells = tells e why

module _ (a b c : State) (C D : Trees → Type 0) (first : Survives a b C) (then : Survives b c D) where
  -- of what comes later
  pub told_later : {A : Type 0} (r : Result A Error) → IfErr r (TellsErrorCause b c) → IfErr r (TellsErrorCause a c)
  told_later (Ok x) tells = tt
  told_later (Err e) tells = λ clean. cause_later a b c C D e first then clean (tells clean)

  pub passed_later : {A : Type 0} (e : Error) (r : Result A Error) → IsErrAnd r (λ other. other ≡ e) → TellsErrorCause b c e → IfErr r (TellsErrorCause a c)
  passed_later e r gives tells = told_later r (passed b c e r gives tells)

  -- of what came before
  pub told_before : {A : Type 0} (r : Result A Error) → IfErr r (TellsErrorCause a b) → IfErr r (TellsErrorCause a c)
  told_before (Ok x) tells = tt
  told_before (Err e) tells = λ clean. cause_before a b c C D e first then (tells (omega (arith, then.clean, clean)))

  -- of a commit inside the transaction
  pub told_of_commit : {A : Type 0} (r : Result A Error) → (HasCleanDisk b → IsTrue b.in_transaction) → (HasCleanDisk c → IfErr r (FailsToCommit b c)) → IfErr r (TellsErrorCause a c)
  told_of_commit (Ok x) inside fails = tt
  told_of_commit (Err e) inside fails = λ clean. cause_later a b c C D e first then clean (commit_cause b c e (inside (omega (arith, then.clean, clean))) (fails clean))

-- inside a transaction that was just begun as before it
pub told_outside : {A S : Type 0} (g : Ghosts S) (old began : Held S) (new : State) (r : Result A Error) → began ≡ record old { in_transaction = true }
    → IfErr r (TellsErrorCause (state g began) new) → IfErr r (TellsErrorCause (state g old) new)
unfolding IsCause
told_outside g old began new (Ok x) is tells = tt
told_outside g old began new (Err e) is tells = subst (λ (h : Held _). TellsErrorCause (state g h) new e) is tells
