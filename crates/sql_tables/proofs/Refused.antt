-- Why a change was refused in a transaction.
use Rattle.std.proofs.Common.{◌≡◌, ◌∙◌, ℕ, inl, inr, Bool, true, false, true≢false, List, [], ◌∷◌, Option, Some, None, length, Result, Ok, Err, IfErr, IsErrAnd, IsTrue, MatchBool, refl, sym, ap, subst}
use Rattle.std.proofs.lemmas.Bool.{cases_Bool}
use Rattle.sqlite_value.specs.Order.{Row}
use Rattle.sqlite_trees.specs.declared.error.StoreError.TheVariants.{OutOfMemory, Io, Corrupt, Full, Broken, Unstorable}
use Rattle.sqlite_schema.specs.declared.command.Command.{Command}
use Rattle.sqlite_schema.specs.declared.command.Command.TheVariants.{Select, Insert, InsertOr, Update, Delete, CreateTable, CreateIndex, DropTable, DropIndex, Begin, Commit, Rollback, Savepoint, Release, RollbackTo, Nothing, CreateView, DropView, Rows}
use Rattle.sqlite_schema.specs.declared.command.Returning.{Returning}
use Rattle.sqlite_resolve.specs.declared.compiled.Compiled.{Compiled}
use Rattle.sqlite_resolve.specs.declared.error.CompileError.{CompileError}
use Rattle.sqlite.specs.Schema.{Schema}
use Rattle.sqlite.specs.declared.error.ErrorCode.TheVariants as code
use Rattle.sqlite.specs.declared.error.Error.{Error}
use Rattle.sqlite.specs.declared.error.Error.TheVariants.{SqliteFailure, ExecuteReturnedResults}
use Rattle.sqlite.specs.Clock.{timed}
use Rattle.sqlite.specs.Effect.{is_query}
use Rattle.sqlite.specs.Does.{Does}
use Rattle.sqlite.specs.Listing.{understood}
use Rattle.sqlite.specs.State.{State, EndsScope, Escapes, Executes, ExecutesIn, ExecutesInside, Fails, IsMisplaced, IsStatement, IsUnchanged, Runs, RunsCommand, Writes, is_pragma, mode_of, shows_rows, text_of}
use Rattle.sqlite.proofs.Callers.{IsPlain, command_of}
use Rattle.sql_tables.specs.QueryAnswers.{HasRun}
use Rattle.sql_tables.specs.Causes.{AreMade, StatementComesTo, IsCause, IsCauseToWrite, IsRefusedFor, IsStatementText, RefusesToRun, Statement, is_shut_error}
use Rattle.sql_tables.proofs.Causes.{failed_cause, not_run_cause, same_text, values}
use Rattle.sql_tables.proofs.Readable.{IsWhole}

-- ---- what changes the tables

abbrev pub is_change : Command → Bool
is_change (Insert at from) = true
is_change (InsertOr at how from clauses) = true
is_change (Update at q) = true
is_change (Delete at q) = true
is_change CreateTable = true
is_change (CreateIndex at) = true
is_change _ = false

module _ (command : Command) (is : is_change command ≡ true) where
  other : (word : Command) → is_change word ≡ false → command ≡ word → ⊥
  other word unlike same = absurd (true≢false (sym is ∙ ap is_change same ∙ unlike))

  -- it is no word of a transaction
  placed : (s : State) (e : Error) → IsMisplaced s command e → ⊥
  placed s e (inl (same, inl begins)) = other Begin refl begins.0
  placed s e (inl (same, inr (inl commits, idle))) = other Commit refl commits
  placed s e (inl (same, inr (inr rolls, idle))) = other Rollback refl rolls
  placed s e (inr (same, name, inl releases, none)) = other (Release name) refl releases
  placed s e (inr (same, name, inr rolls, none)) = other (RollbackTo name) refl rolls

  stays : (held : ℕ) (s : State) → Escapes held s command → ⊥
  stays held s (inl (inl commits)) = other Commit refl commits
  stays held s (inl (inr rolls)) = other Rollback refl rolls
  stays held s (inr (name, inl releases, it)) = other (Release name) refl releases
  stays held s (inr (name, inr rolls, it)) = other (RollbackTo name) refl rolls

-- it shows no rows
shows_none : (command : Command) → is_change command ≡ true → (is_query command ≡ false) × (is_pragma command ≡ false)
shows_none (Insert at from) is = (refl, refl)
shows_none (InsertOr at how from clauses) is = (refl, refl)
shows_none (Update at q) is = (refl, refl)
shows_none (Delete at q) is = (refl, refl)
shows_none CreateTable is = (refl, refl)
shows_none (CreateIndex at) is = (refl, refl)
shows_none (Select q names) is = absurd cc
shows_none (DropTable at) is = absurd cc
shows_none (DropIndex at) is = absurd cc
shows_none Begin is = absurd cc
shows_none Commit is = absurd cc
shows_none Rollback is = absurd cc
shows_none (Savepoint name) is = absurd cc
shows_none (Release name) is = absurd cc
shows_none (RollbackTo name) is = absurd cc
shows_none Nothing is = absurd cc
shows_none CreateView is = absurd cc
shows_none (DropView at) is = absurd cc
shows_none (Rows values width names) is = absurd cc

module _ (old new : State) (returning : Option Returning) (text : List ℕ) (params : Row) (count : ℕ) where
  -- what was run has written
  writes : (command : Command) → is_change command ≡ true → Runs old new returning command text params count → Writes old new returning command text params count
  writes (Insert at from) is ran = ran
  writes (InsertOr at how from clauses) is ran = ran
  writes (Update at q) is ran = ran
  writes (Delete at q) is ran = ran
  writes CreateTable is ran = ran
  writes (CreateIndex at) is ran = ran
  writes (Select q names) is ran = absurd cc
  writes (DropTable at) is ran = absurd cc
  writes (DropIndex at) is ran = absurd cc
  writes Begin is ran = absurd cc
  writes Commit is ran = absurd cc
  writes Rollback is ran = absurd cc
  writes (Savepoint name) is ran = absurd cc
  writes (Release name) is ran = absurd cc
  writes (RollbackTo name) is ran = absurd cc
  writes Nothing is ran = absurd cc
  writes CreateView is ran = absurd cc
  writes (DropView at) is ran = absurd cc
  writes (Rows values width names) is ran = absurd cc

-- The text is one statement that changes the tables.
pub record IsChange (schema : Schema) (sql : List ℕ) (params : Row) : Type 0 where
  pub text : IsStatementText schema sql params
  pub changes : is_change text.compiled.command ≡ true

pub change_by : (schema : Schema) (sql : List ℕ) (params : Row) (r : Result Compiled CompileError) → understood schema sql ≡ r → IsPlain r → IsWhole r (length sql) (length params) → is_change (command_of r) ≡ true
    → IsChange schema sql params
change_by schema sql params (Err e) is plain whole changes = absurd plain
change_by schema sql params (Ok c) is plain whole changes = record {
  text = record { compiled = c; is = is; whole = whole.0; given = whole.1; plain = plain };
  changes = changes;
}

module _ (schema : Schema) (sql : List ℕ) (params : Row) (old new : State) (has : IsTrue old.is_open → old.now.schema ≡ schema) (it : IsChange schema sql params) where
  abbrev pub one : Statement
  one = record { sql = sql; params = params }

  same : (c : Compiled) → IsStatement old sql params c → IsTrue old.is_open → c ≡ it.text.compiled
  same c st = same_text schema sql params old has it.text c st.is

  silent : (c : Compiled) → IsStatement old sql params c → IsTrue old.is_open → shows_rows false c ≡ false
  silent c st opened =
      let none = shows_none it.text.compiled.command it.changes in
      ap (shows_rows false) (same c st opened) ∙ rw (none.0, none.1, it.text.plain.0) refl

  -- what the rules made of it
  comes_to : (c : Compiled) (st : IsStatement old sql params c) (out : _) → IsTrue old.is_open
      → Does old.step_limit (mode_of old) (timed params c.formats st.now) old.now (text_of sql c) c.returning c.command out → StatementComesTo old.step_limit one old.now out
  comes_to c st out opened does =
      (c, st.is, subst (λ r. Does old.step_limit (mode_of old) r old.now (text_of sql c) c.returning c.command out) (values schema sql params old has it.text c st.now st.is opened) does)

  -- ---- where it was refused

  module _ (e : Error) where
    by_rules : IsTrue old.is_open → IsRefusedFor old.step_limit one old.now e → IsCauseToWrite (one ∷ []) old new e
    unfolding IsCauseToWrite
    by_rules opened refused = inr (opened, inl refused)

    for_cause : IsCause old new e → IsCauseToWrite (one ∷ []) old new e
    unfolding IsCauseToWrite
    for_cause cause = inl cause

    shut_cause : e ≡ SqliteFailure code.TooBig → old.is_open ≡ false → IsCause old new e
    unfolding IsCause
    shut_cause is shut = inr (inr (inl (subst (λ (e : Error). IsTrue (is_shut_error e)) (sym is) refl, λ opened. absurd (true≢false (sym opened ∙ shut)))))

    too_big : (c : Compiled) (st : IsStatement old sql params c) → e ≡ SqliteFailure code.TooBig → Does old.step_limit (mode_of old) (timed params c.formats st.now) old.now (text_of sql c) c.returning c.command (Err None)
        → IsCauseToWrite (one ∷ []) old new e
    too_big c st is does = elim (cases_Bool old.is_open) [
      | inl opened ↦ by_rules opened (inr (is, comes_to c st (Err None) opened does))
      | inr shut ↦ for_cause (shut_cause is shut)
    ]

    failed : (c : Compiled) (st : IsStatement old sql params c) → Fails old new (Does old.step_limit (mode_of old) (timed params c.formats st.now) old.now (text_of sql c) c.returning c.command (Err None)) e
        → IsCauseToWrite (one ∷ []) old new e
    failed c st (OutOfMemory, is, cause, undone, told) = for_cause (failed_cause old new ⊥ e (λ no opened. no) (OutOfMemory, is, cause, undone, told))
    failed c st (Io, is, cause, undone, told) = for_cause (failed_cause old new ⊥ e (λ no opened. no) (Io, is, cause, undone, told))
    failed c st (Corrupt, is, cause, undone, told) = for_cause (failed_cause old new ⊥ e (λ no opened. no) (Corrupt, is, cause, undone, told))
    failed c st (Full, is, cause, undone, told) = for_cause (failed_cause old new ⊥ e (λ no opened. no) (Full, is, cause, undone, told))
    failed c st (Broken, is, cause, undone, told) = for_cause (failed_cause old new ⊥ e (λ no opened. no) (Broken, is, cause, undone, told))
    failed c st (Unstorable, is, does, undone, told) = too_big c st is does

    command_refused : (c : Compiled) (st : IsStatement old sql params c) → RunsCommand old new sql c (timed params c.formats st.now) (Err e) → IsCauseToWrite (one ∷ []) old new e
    command_refused c st (inl (inl misplaced, rest)) =
        absurd (placed it.text.compiled.command it.changes old e (subst (λ (c : Compiled). IsMisplaced old c.command e) (same c st rest.0.was_open) misplaced))
    command_refused c st (inl (inr refused, rest)) = by_rules rest.0.was_open (inl (comes_to c st (Err (Some e)) rest.0.was_open refused.1))
    command_refused c st (inr fails) = failed c st fails

    alone_refused : (c : Compiled) (st : IsStatement old sql params c) (shows : Bool) → shows_rows false c ≡ shows
        → MatchBool shows ((◌≡◌ {A = Result ℕ Error} (Err e) (Err ExecuteReturnedResults)) × IsUnchanged old new) (RunsCommand old new sql c (timed params c.formats st.now) (Err e)) → IsCauseToWrite (one ∷ []) old new e
    alone_refused c st true is h = absurd (true≢false (sym is ∙ silent c st h.1.0.was_open))
    alone_refused c st false is h = command_refused c st h

    executed_refused : Executes sql params old new (Err e) → IsCauseToWrite (one ∷ []) old new e
    unfolding ExecutesIn
    executed_refused (inl none) = for_cause (not_run_cause schema sql params old has it.text new e none)
    executed_refused (inr ran) = alone_refused ran.0 ran.1 (shows_rows false ran.0) refl ran.2

    inside_refused : ExecutesInside 0 sql params old new (Err e) → IsCauseToWrite (one ∷ []) old new e
    unfolding EndsScope
    inside_refused (inl h) = executed_refused h.0
    inside_refused (inr (ends, is, rest)) =
        absurd (stays it.text.compiled.command it.changes 0 old (subst (λ (c : Compiled). Escapes 0 old c.command) (same ends.0 ends.1 rest.0.was_open) ends.2))

    pub refused_cause : IsTrue old.in_transaction → RefusesToRun sql params old new e → IsCauseToWrite (one ∷ []) old new e
    refused_cause inside refused = inside_refused (subst (λ b. MatchBool b (ExecutesInside 0 sql params old new (Err e)) (e ≡ SqliteFailure code.TransactionState)) inside refused)

  -- ---- where it was run

  went : (c : Compiled) (st : IsStatement old sql params c) (count : ℕ) (shows : Bool) → IsTrue old.is_open
      → MatchBool shows ((◌≡◌ {A = Result ℕ Error} (Ok count) (Err ExecuteReturnedResults)) × IsUnchanged old new) (RunsCommand old new sql c (timed params c.formats st.now) (Ok count))
      → Runs old new c.returning c.command (text_of sql c) (timed params c.formats st.now) count
  went c st count true opened h = absurd (let is = h.0 in cc)
  went c st count false opened h = h

  ran_made : (count : ℕ) → IsTrue old.is_open → Executes sql params old new (Ok count) → AreMade old.step_limit (one ∷ []) old.now new.now
  unfolding ExecutesIn
  ran_made count opened (c, st, h) =
      let ran = went c st count (shows_rows false c) opened h in
      let changes = ap (λ (c : Compiled). is_change c.command) (same c st opened) ∙ it.changes in
      let w = writes old new c.returning (text_of sql c) (timed params c.formats st.now) count c.command changes ran in
      (w.tally, new.now, comes_to c st (Ok (w.tally, new.now)) opened w.changed, refl)

  pub has_made : HasRun sql params old new → AreMade old.step_limit (one ∷ []) old.now new.now
  has_made run = ran_made run.count run.was_open run.ran

-- as it is passed on
pub passed_refusal : {A : Type 0} (sql : List ℕ) (params : Row) (old new : State) (e : Error) (passed : Result A Error) → IsErrAnd passed (λ x. x ≡ e)
    → (old.in_transaction ≡ false → ◌≡◌ {A = Result ℕ Error} (Err e) (Err (SqliteFailure code.TransactionState)))
    → (IsTrue old.in_transaction → ExecutesInside 0 sql params old new (Err e)) → IfErr passed (RefusesToRun sql params old new)
passed_refusal sql params old new e (Ok x) gives ended runs = absurd gives
passed_refusal sql params old new e (Err x) gives ended runs = subst (RefusesToRun sql params old new) (sym gives) (by_mode old.in_transaction ended runs)
  where
    by_mode : (inside : Bool) → (inside ≡ false → ◌≡◌ {A = Result ℕ Error} (Err e) (Err (SqliteFailure code.TransactionState))) → (IsTrue inside → ExecutesInside 0 sql params old new (Err e))
        → MatchBool inside (ExecutesInside 0 sql params old new (Err e)) (e ≡ SqliteFailure code.TransactionState)
    by_mode true ended runs = runs refl
    by_mode false ended runs = let is = ended refl in cc
