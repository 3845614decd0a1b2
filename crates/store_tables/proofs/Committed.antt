-- What a commit of some writes has done.
use Rattle.std.proofs.Common.{◌≡◌, ◌⊎◌, ◌∙◌, ◌+◌, ◌<◌, ℕ, zero, suc, length, take, drop, get_or, append_assoc, refl, sym, ap, subst, arith, inl, inr, true, false, List, [], ◌∷◌, ◌++◌, Result, Ok, Err, IfErr, IsErrAnd, OnErr, OnOk, IsTrue}
use Rattle.std.proofs.lemmas.List.{drop_more}
use Rattle.sqlite_trees.specs.Tree.{Trees}
use Rattle.sqlite_trees.specs.declared.store.Store.{Ghosts}
use Rattle.sqlite.specs.declared.error.Error.{Error}
use Rattle.sqlite.specs.Effect.{Database}
use Rattle.sqlite.specs.Held.{Held, state}
use Rattle.sqlite.specs.State.{State, HasCleanDisk, IsRolledBack, KeepsCommit, KeepsCounts, Shows, Survives}
use Rattle.sqlite.specs.Steps.{FailsToCommit}
use Rattle.sqlite.proofs.StateLemmas.{survives_then}
use Rattle.sql_tables.specs.QueryAnswers.{AreTablesKept}
use Rattle.sql_tables.proofs.InTurn.{cause_to_write, write_cause_before, write_cause_later, write_cause_more}
use Rattle.sql_tables.proofs.Queries.{on_ok}
use Rattle.store_tables.specs.Records.{Records, Write, applied_all}
use Rattle.store_tables.specs.Statements.{statements_of, statements_of_all}
use Rattle.store_tables.specs.Steps.{Lands, ChangesRecords, TurnsRecords}
use Rattle.store_tables.specs.Looks.{MakesWrites}
use Rattle.sql_tables.specs.Causes.{IsCause, IsCauseToWrite, Statement, TellsErrorCause, TellsWriteCause}
use Rattle.store_tables.proofs.Caused.{told_of_commit}
use Rattle.store_tables.proofs.Chained.{IsSettling, lasts}

-- inside the transaction that is begun the tables are those of before
abbrev begun : {S : Type 0} → Held S → Held S
begun held = record held { in_transaction = true }

module _ {S : Type 0} (g : Ghosts S) (old mid : Held S) where
  pub survives_from : (began : Held S) → began ≡ begun old → Survives (state g began) (state g mid) (λ _. ⊥) → Survives (state g old) (state g mid) (λ _. ⊥)
  survives_from began is s =
      let it = subst (λ (h : Held S). Survives (state g h) (state g mid) (λ _. ⊥)) is s in
      record { clean = it.clean; shield = it.shield; counts = it.counts; limit = it.limit; closes = it.closes; crash = it.crash }

  pub kept_from : (began : Held S) → began ≡ begun old → KeepsCommit (state g began) (state g mid) → KeepsCommit (state g old) (state g mid)
  kept_from began is k =
      let it = subst (λ (h : Held S). KeepsCommit (state g h) (state g mid)) is k in
      record { was_open = it.was_open; committed = it.committed }

  pub opened_from : (began : Held S) (writes : List Write) → began ≡ begun old → (writes ≡ []) ⊎ IsTrue (state g began).is_open → (writes ≡ []) ⊎ IsTrue (state g old).is_open
  opened_from began writes is o = subst (λ (h : Held S). (writes ≡ []) ⊎ IsTrue (state g h).is_open) is o

  pub turns_from : (began : Held S) (change : Records → Records) → began ≡ begun old → TurnsRecords change (state g began).now.trees (state g mid).now.trees → TurnsRecords change (state g old).now.trees (state g mid).now.trees
  turns_from began change is t = subst (λ (h : Held S). TurnsRecords change (state g h).now.trees (state g mid).now.trees) is t

  pub steps_from : (began : Held S) (change : Records → Records) (statements : List Statement) → began ≡ begun old
      → (IsTrue (state g began).is_open → ChangesRecords change statements (state g began) (state g mid)) → IsTrue (state g old).is_open → ChangesRecords change statements (state g old) (state g mid)
  steps_from began change statements is s was_open =
      let it = subst (λ (h : Held S). IsTrue (state g h).is_open → ChangesRecords change statements (state g h) (state g mid)) is s was_open in
      record { was_open = it.was_open; schema = it.schema; inside = it.inside; records = it.records; made = it.made }

to_write : {A : Type 0} (writes : List Write) (a b : State) (r : Result A Error) → IfErr r (TellsErrorCause a b) → IfErr r (TellsWriteCause (statements_of_all writes) a b)
to_write writes a b (Ok x) tells = tt
to_write writes a b (Err e) tells = λ clean. cause_to_write (statements_of_all writes) a b e (tells clean)

module _ {S : Type 0} (g : Ghosts S) (law : IsSettling g) (old mid new : Held S) (writes : List Write) (some : writes ≡ [] → ⊥)
    (idle : IsTrue (state g old).is_open → (state g old).now ≡ (state g old).committed)
    (survives : Survives (state g old) (state g mid) (λ _. ⊥))
    (kept : HasCleanDisk (state g mid) → KeepsCommit (state g old) (state g mid))
    (opened : HasCleanDisk (state g mid) → (writes ≡ []) ⊎ IsTrue (state g old).is_open)
    (turns : HasCleanDisk (state g mid) → TurnsRecords (applied_all writes) (state g old).now.trees (state g mid).now.trees)
    (steps : HasCleanDisk (state g mid) → IsTrue (state g old).is_open → ChangesRecords (applied_all writes) (statements_of_all writes) (state g old) (state g mid))
    (inside : HasCleanDisk (state g mid) → IsTrue (state g mid).in_transaction)
    (lives : Survives (state g mid) (state g new) (λ db. db ≡ (state g mid).now.trees)) where
  earlier : HasCleanDisk (state g new) → HasCleanDisk (state g mid)
  earlier clean = omega (arith, lives.clean, clean)

  written : HasCleanDisk (state g new) → Shows (state g mid) (state g new) (state g mid).now (state g mid).now false → Lands writes (state g old) (state g new).now.trees
  written clean shows = (
    (kept (earlier clean)).was_open shows.was_open,
    subst (λ (db : Database). TurnsRecords (applied_all writes) (state g old).now.trees db.trees) (sym shows.now_is) (turns (earlier clean)),
  )

  lands : HasCleanDisk (state g new) → (db : Trees) → db ≡ (state g mid).now.trees → Lands writes (state g old) db
  lands clean db is = elim (opened (earlier clean)) [
    | inl none ↦ absurd (some none)
    | inr was_open ↦ (was_open, subst (λ (trees : Trees). TurnsRecords (applied_all writes) (state g old).now.trees trees) (sym is) (turns (earlier clean)))
  ]

  undone_by : (result : Result (Unit {0}) Error) → (HasCleanDisk (state g new) → IfErr result (FailsToCommit (state g mid) (state g new))) → OnErr result (AreTablesKept (state g old) (state g new))
  undone_by (Ok x) told = tt
  undone_by (Err e) told = λ clean is_open.
      let k = kept (earlier clean) in
      elim (told clean) [
        | inl fails ↦
            let was = fails.3.was_open is_open in
            (k.was_open was, (fails.3.undone is_open).0 ∙ k.committed was ∙ sym (idle (k.was_open was)))
        | inr late ↦
            let clash : IsTrue false = subst IsTrue late.1 (inside (earlier clean)) in
            absurd cc
      ]

  pub committed : (result : Result (Unit {0}) Error)
      → (HasCleanDisk (state g new) → OnOk result (IsTrue (state g mid).in_transaction × Shows (state g mid) (state g new) (state g mid).now (state g mid).now false × KeepsCounts (state g mid) (state g new) × ((state g new).marks ≡ [])))
      → (HasCleanDisk (state g new) → IfErr result (FailsToCommit (state g mid) (state g new)))
      → MakesWrites g writes (TellsWriteCause (statements_of_all writes) (state g old) (state g new)) old new result
  committed result told failed = record {
    done = λ clean. on_ok result (told clean) (λ it. inr (written clean it.1));
    lasts = λ clean. on_ok result (lasts g law (state g mid) new result told clean) (λ it. inr it);
    undone = undone_by result failed;
    why = to_write writes (state g old) (state g new) result (told_of_commit (state g old) (state g mid) (state g new) (λ _. ⊥) (λ db. db ≡ (state g mid).now.trees) survives lives result inside failed);
    crash = survives_then (state g old) (state g mid) (state g new) (λ _. ⊥) (λ db. db ≡ (state g mid).now.trees) (Lands writes (state g old)) (λ _ db none. absurd none) lands survives lives;
  }

-- ---- a statement that was refused

-- inside a transaction that was just begun as before it
begun_tells : {S : Type 0} (g : Ghosts S) (statements : List Statement) (old began : Held S) (new : State) (e : Error) → began ≡ begun old → IsCauseToWrite statements (state g began) new e
    → IsCauseToWrite statements (state g old) new e
unfolding IsCause IsCauseToWrite
begun_tells g statements old began new e is cause = subst (λ (h : Held _). IsCauseToWrite statements (state g h) new e) is cause

-- the statements of the first writes, and of the others
statements_split : (some more : List Write) → statements_of_all (some ++ more) ≡ statements_of_all some ++ statements_of_all more
statements_split [] more = refl
statements_split (w ∷ some) more = ap (λ (xs : List Statement). statements_of w ++ xs) (statements_split some more) ∙ sym (append_assoc (statements_of w) (statements_of_all some) (statements_of_all more))

front_rest : {X : Type 0} (n : ℕ) (xs : List X) → take n xs ++ drop n xs ≡ xs
front_rest zero xs = refl
front_rest (suc n) [] = refl
front_rest (suc n) (x ∷ xs) = ap (λ (ys : List _). x ∷ ys) (front_rest n xs)

pub split_at : {X : Type 0} (i : ℕ) (xs : List X) (d : X) → i < length xs → take i xs ++ get_or xs i d ∷ drop (i + 1) xs ≡ xs
split_at i xs d lt = ap (λ (ys : List _). take i xs ++ ys) (sym (drop_more xs i d lt)) ∙ front_rest i xs

-- one of these writes was refused, behind some that were made
pub refused_behind : (a b c : State) (some more : List Write) (w : Write) (e : Error) → (HasCleanDisk b → IsTrue a.is_open → ChangesRecords (applied_all some) (statements_of_all some) a b) → (HasCleanDisk b → KeepsCommit a b)
    → Survives a b (λ _. ⊥) → Survives b c (λ _. ⊥) → TellsWriteCause (statements_of w) b c e → TellsWriteCause (statements_of_all (some ++ w ∷ more)) a c e
refused_behind a b c some more w e steps kept first then tells clean =
    let early : HasCleanDisk b = omega (arith, then.clean, clean) in
    let it = write_cause_later a b c (λ _. ⊥) (λ _. ⊥) e first then (statements_of_all some) (statements_of w) (λ was. let opened = (kept early).was_open was in (opened, (steps early opened).made)) clean (tells clean) in
    let all = write_cause_more (statements_of_all some ++ statements_of w) (statements_of_all more) a c e it in
    subst (λ (xs : List Statement). IsCauseToWrite xs a c e) (append_assoc (statements_of_all some) (statements_of w) (statements_of_all more) ∙ sym (statements_split some (w ∷ more))) all

-- and what came before it is undone
pub given_up : {S : Type 0} (g : Ghosts S) (old began mid new : Held S) (writes : List Write) (e : Error) (result : Result (Unit {0}) Error) → IsErrAnd result (λ other. other ≡ e)
    → began ≡ begun old → (IsTrue (state g old).is_open → (state g old).now ≡ (state g old).committed)
    → Survives (state g began) (state g mid) (λ _. ⊥) → (HasCleanDisk (state g mid) → KeepsCommit (state g began) (state g mid)) → TellsWriteCause (statements_of_all writes) (state g began) (state g mid) e
    → Survives (state g mid) (state g new) (λ _. ⊥) → (HasCleanDisk (state g new) → IsRolledBack (state g mid) (state g new))
    → MakesWrites g writes (TellsWriteCause (statements_of_all writes) (state g old) (state g new)) old new result
given_up g old began mid new writes e (Ok x) gives is idle survives kept tells lives undone = absurd gives
given_up g old began mid new writes e (Err other) gives is idle survives kept tells lives undone = record {
  done = λ clean. tt;
  lasts = λ clean. tt;
  undone = λ clean is_open.
      let k = kept_from g old mid began is (kept (omega (arith, lives.clean, clean))) in
      let was = (undone clean).was_open is_open in
      (k.was_open was, ((undone clean).undone is_open).0 ∙ k.committed was ∙ sym (idle (k.was_open was)));
  why = λ clean.
      let told = write_cause_before (state g began) (state g mid) (state g new) (λ _. ⊥) (λ _. ⊥) e survives lives (statements_of_all writes) (tells (omega (arith, lives.clean, clean))) in
      subst (IsCauseToWrite (statements_of_all writes) (state g old) (state g new)) (sym gives) (begun_tells g (statements_of_all writes) old began (state g new) e is told);
  crash = survives_then (state g old) (state g mid) (state g new) (λ _. ⊥) (λ _. ⊥) (Lands writes (state g old)) (λ _ db none. absurd none) (λ _ db none. absurd none) (survives_from g old mid began is survives) lives;
}
