-- A cause over a longer way, and the cause of one statement.
use Rattle.std.proofs.Common.{◌≡◌, ◌∙◌, ℕ, ◌≤◌, true, false, arith, inl, inr, refl, sym, ap, subst, subst₂, append-nil, length, List, None, Some, Ok, Err, Option, IsTrue, IsSome, IsErrAnd, IfErr, Result}
use Rattle.sqlite_trees.specs.Tree.{Trees}
use Rattle.sqlite.specs.declared.error.Error.{Error}
use Rattle.sqlite_value.specs.Order.{Row}
use Rattle.sqlite_trees.specs.declared.error.StoreError.{StoreError}
use Rattle.sqlite_trees.specs.declared.error.StoreError.TheVariants as fault
use Rattle.sqlite.specs.Schema.{Schema}
use Rattle.sqlite.specs.Clock.{timed}
use Rattle.sqlite_resolve.specs.declared.compiled.Compiled.{Compiled}
use Rattle.sqlite_resolve.specs.declared.error.CompileError.{CompileError}
use Rattle.sqlite_schema.specs.declared.command.Returning.{Returning}
use Rattle.sqlite.specs.Effect.{Database, RefusesToRead}
use Rattle.sqlite.specs.Listing.{IsSourceOf, reads_listing, understood}
use Rattle.sqlite.specs.State.{State, Fails, FailsToQuery, FailsToShow, HasCause, HasCleanDisk, IsNotRun, IsNoStatement, Survives, is_disk_error, store_error}
use Rattle.sqlite.specs.Held.{Held, state}
use Rattle.sqlite_trees.specs.declared.store.Store.{Ghosts}
use Rattle.sql_tables.specs.declared.read.ReadError.{ReadError}
use Rattle.sql_tables.specs.declared.read.RowError.{RowError}
use Rattle.sql_tables.specs.declared.read.RowError.TheVariants.{Foreign, OutOfMemory}
use Rattle.sql_tables.specs.CellReads.{read_error}
use Rattle.sql_tables.specs.Causes.{HasFailed, IsCause, IsReadable, IsStatementText, TellsReadCause, is_shut_error}

failed_wider : (a b c d : State) → a.faults ≤ b.faults → c.faults ≤ d.faults → HasFailed b c → HasFailed a d
failed_wider a b c d before behind failed = omega (arith, before, behind, failed)

module _ (a b c : State) (C D : Trees → Type 0) (e : Error) (first : Survives a b C) (then : Survives b c D) where
  -- a cause of what comes later
  pub cause_later : HasCleanDisk c → IsCause b c e → IsCause a c e
  unfolding IsCause
  cause_later clean (inl memory) = inl memory
  cause_later clean (inr (inl disk)) = inr (inl (disk.0, failed_wider a b c c first.counts (omega arith) disk.1))
  cause_later clean (inr (inr (inl shut))) = inr (inr (inl (
    shut.0,
    λ was. elim (first.closes (omega (arith, then.clean, clean)) was) [
      | inl opened ↦ failed_wider a b c c first.counts (omega arith) (shut.1 opened)
      | inr failed ↦ failed_wider a a b c (omega arith) then.counts failed
    ],
  )))
  cause_later clean (inr (inr (inr limit))) = inr (inr (inr (limit.0, subst (λ (o : Option ℕ). IsSome o) first.limit limit.1)))

  -- a cause of what came before
  pub cause_before : IsCause a b e → IsCause a c e
  unfolding IsCause
  cause_before (inl memory) = inl memory
  cause_before (inr (inl disk)) = inr (inl (disk.0, failed_wider a a b c (omega arith) then.counts disk.1))
  cause_before (inr (inr (inl shut))) = inr (inr (inl (shut.0, λ was. failed_wider a a b c (omega arith) then.counts (shut.1 was))))
  cause_before (inr (inr (inr limit))) = inr (inr (inr limit))

-- ---- one question

-- the store failed
module _ (old new : State) (TooBig : Type 0) (e : Error) (big : TooBig → IsTrue old.is_open → ⊥) where
  failed_by : (kind : StoreError) → e ≡ store_error kind → HasCause old new TooBig kind → IsCause old new e
  unfolding IsCause
  failed_by fault.OutOfMemory is cause = inl is
  failed_by fault.Io is cause = inr (inl (subst (λ (e : Error). IsTrue (is_disk_error e)) (sym is) refl, cause))
  failed_by fault.Corrupt is cause = inr (inl (subst (λ (e : Error). IsTrue (is_disk_error e)) (sym is) refl, cause))
  failed_by fault.Full is cause = inr (inl (subst (λ (e : Error). IsTrue (is_disk_error e)) (sym is) refl, cause))
  failed_by fault.Broken is cause = inr (inr (inl (subst (λ (e : Error). IsTrue (is_shut_error e)) (sym is) refl, λ opened. let clash : IsTrue false = subst IsTrue cause opened in absurd cc)))
  failed_by fault.Unstorable is cause = inr (inr (inl (subst (λ (e : Error). IsTrue (is_shut_error e)) (sym is) refl, λ opened. absurd (big cause opened))))

  pub failed_cause : Fails old new TooBig e → IsCause old new e
  failed_cause fails = failed_by fails.0 fails.1 fails.2

-- a text that is one statement is not refused for what it is
module _ (schema : Schema) (sql : List ℕ) (params : Row) (begun : State) (has : IsTrue begun.is_open → begun.now.schema ≡ schema) (text : IsStatementText schema sql params) where
  known : IsTrue begun.is_open → understood begun.now.schema sql ≡ Ok text.compiled
  known opened = ap (λ (s : Schema). understood s sql) (has opened) ∙ text.is

  pub same_text : (c : Compiled) → understood begun.now.schema sql ≡ Ok c → IsTrue begun.is_open → c ≡ text.compiled
  same_text c is opened = let same : ◌≡◌ {A = Result Compiled CompileError} (Ok c) (Ok text.compiled) = sym is ∙ known opened in cc

  pub is_statement : (e : Error) → IsNoStatement begun sql params e → IsTrue begun.is_open → ⊥
  is_statement e (inl none) opened = let clash : ◌≡◌ {A = Result Compiled CompileError} (Ok text.compiled) (Err none.0) = sym (known opened) ∙ none.1 in absurd cc
  is_statement e (inr (c, is, inl short)) opened = absurd (short.0 (subst (λ (c : Compiled). length sql ≤ c.tail) (sym (same_text c is opened)) text.whole))
  is_statement e (inr (c, is, inr (inl others))) opened = absurd (others.0 (text.given ∙ ap (λ (c : Compiled). length c.names) (sym (same_text c is opened))))
  is_statement e (inr (c, is, inr (inr clock))) opened = absurd (clock.0 (ap (λ (c : Compiled). c.formats) (same_text c is opened) ∙ text.plain.1))

  pub values : (c : Compiled) (now : ℕ) → understood begun.now.schema sql ≡ Ok c → IsTrue begun.is_open → timed params c.formats now ≡ params
  values c now is opened =
      ap (λ (c : Compiled). timed params c.formats now) (same_text c is opened) ∙ ap (λ formats. timed params formats now) text.plain.1 ∙ append-nil params

  pub not_run_cause : (new : State) (e : Error) → IsNotRun begun new sql params e → IsCause begun new e
  unfolding IsNotRun
  not_run_cause new e (inl none) = absurd (is_statement e none.0 none.1.0.was_open)
  not_run_cause new e (inr fails) = failed_cause begun new ⊥ e (λ no opened. no) fails

-- a text that asks for rows of the tables is refused for a cause
module _ (schema : Schema) (sql : List ℕ) (params : Row) (begun new : State) (e : Error) (has : IsTrue begun.is_open → begun.now.schema ≡ schema) (it : IsReadable schema sql params) where
  same : (c : Compiled) → understood begun.now.schema sql ≡ Ok c → IsTrue begun.is_open → c ≡ it.text.compiled
  same = same_text schema sql params begun has it.text

  no_returning : (c : Compiled) (what : Returning) → understood begun.now.schema sql ≡ Ok c → Some what ≡ c.returning → IsTrue begun.is_open → ⊥
  no_returning c what is some opened = let clash : Some what ≡ None = some ∙ ap (λ (c : Compiled). c.returning) (same c is opened) ∙ it.text.plain.0 in cc

  not_shown : (c : Compiled) (now : ℕ) → understood begun.now.schema sql ≡ Ok c → (o : Option Returning) → o ≡ c.returning → FailsToShow begun new sql c (timed params c.formats now) e o → IsCause begun new e
  unfolding IsCause
  not_shown c now is None none fails =
      let opened = fails.3.0.was_open in
      let its = same c is opened in
      let source : fails.0 ≡ begun.now = subst (λ b. IsSourceOf b begun.now fails.0) (ap (λ (s : Schema). reads_listing s sql) (has opened) ∙ it.unlisted) fails.1 in
      let given = values schema sql params begun has it.text c now is opened in
      let refused : RefusesToRead begun.step_limit it.text.compiled.command fails.0 params e =
      subst₂ (λ (c : Compiled) (r : Row). RefusesToRead begun.step_limit c.command fails.0 r e) its given fails.2 in
      inr (inr (inr (it.accepted begun.step_limit fails.0 e (ap (λ (d : Database). d.schema) source ∙ has opened) refused)))
  not_shown c now is (Some what) some (inl own) = absurd (no_returning c what is some own.1.0.was_open)
  not_shown c now is (Some what) some (inr fails) = failed_cause begun new _ e (λ big opened. no_returning c what is some opened) fails

  pub asked_cause : FailsToQuery sql params begun new e → IsCause begun new e
  unfolding FailsToQuery
  asked_cause (inl none) = not_run_cause schema sql params begun has it.text new e none
  asked_cause (inr shown) = not_shown shown.0 shown.1.now shown.1.is shown.0.returning refl shown.2

-- inside a transaction that was just begun it is asked as before
pub begun_cause : {S : Type 0} (g : Ghosts S) (old began : Held S) (new : State) (e : Error) → began ≡ record old { in_transaction = true } → IsCause (state g began) new e → IsCause (state g old) new e
unfolding IsCause
begun_cause g old began new e is cause = subst (λ (h : Held _). IsCause (state g h) new e) is cause

-- ---- what is told of it

-- an error that is passed on
pub read_cause_by : {A : Type 0} (a b : State) (e : ReadError) (r : Result A ReadError) → IsErrAnd r (λ other. other ≡ e) → TellsReadCause a b e → IfErr r (TellsReadCause a b)
read_cause_by a b e (Ok x) gives tells = absurd gives
read_cause_by a b e (Err other) gives tells = subst (TellsReadCause a b) (sym gives) tells

-- of a row the database is not asked
row_cause : (a b : State) (row : RowError) → TellsReadCause a b (read_error row)
row_cause a b Foreign clean cause is = absurd cc
row_cause a b OutOfMemory clean cause is = absurd cc

pub row_cause_by : {A : Type 0} (a b : State) (row : RowError) (r : Result A ReadError) → IsErrAnd r (λ error. error ≡ read_error row) → IfErr r (TellsReadCause a b)
row_cause_by a b row (Ok x) gives = absurd gives
row_cause_by a b row (Err error) gives = subst (TellsReadCause a b) (sym gives) (row_cause a b row)

-- which is only told where the disk returned what was written
pub cause_if_clean : {A : Type 0} (a b : State) (r : Result A ReadError) → (HasCleanDisk b → IfErr r (TellsReadCause a b)) → IfErr r (TellsReadCause a b)
cause_if_clean a b (Ok x) tells = tt
cause_if_clean a b (Err e) tells = λ clean. tells clean clean
