-- Changes of the records, by one statement and one after another.
use Rattle.std.proofs.Common.{◌≡◌, ◌/◌, ◌++◌, ℕ, Bool, not, List, [], ◌∷◌, append_assoc, append-nil, map, filter, length, slice_get, Option, Some, refl, sym, ap, subst, ◌∙◌, Result, Ok, Err, IfErr, IsErrAnd, IsTrue, OnOk, arith}
use Rattle.std.specs.List.{AllByRecursion}
use Rattle.sqlite.specs.declared.types.Value.TheVariants.{Null}
use Rattle.sqlite_value.specs.Order.{Row}
use Rattle.sqlite_trees.specs.Tree.{Trees}
use Rattle.sqlite_trees.specs.declared.store.Store.{Ghosts}
use Rattle.sqlite_schema.specs.declared.schema.Column.{Column}
use Rattle.sqlite.specs.Cast.{cast_all}
use Rattle.sqlite_keyed.proofs.ListLemmas.{filter-map, filter_same}
use Rattle.sqlite.specs.Command.TheVariants.{Delete, Insert}
use Rattle.sqlite.specs.Effect.{Database, value_rows}
use Rattle.sqlite.specs.Held.{Held, state}
use Rattle.sqlite.specs.Listing.{understood}
use Rattle.sqlite.specs.Source.TheVariants.{Values}
use Rattle.sqlite.specs.State.{State, HasCleanDisk, KeepsCommit, Survives}
use Rattle.sqlite.specs.Term.{Term, col}
use Rattle.sqlite.proofs.Callers.{IsPlain, command_of}
use Rattle.sql_tables.specs.QueryAnswers.{HasRun}
use Rattle.sql_tables.specs.Changes.{ChangesTable, KeepsOthers}
use Rattle.sql_tables.specs.Columns.{NoneRefers, plain_orders, table_of}
use Rattle.sql_tables.specs.Content.{HasRows}
use Rattle.sql_tables.specs.Statements.{rows_of, program_of}
use Rattle.sqlite.specs.declared.error.Error.{Error}
use Rattle.sql_tables.specs.Causes.{AreMade, IsCauseToWrite, RefusesToRun, Statement, TellsWriteCause}
use Rattle.sql_tables.proofs.InTurn.{made_then, write_cause_later, write_cause_more}
use Rattle.sql_tables.proofs.Queries.{keeps_on, on_ok}
use Rattle.sql_tables.proofs.Refused.{IsChange, has_made, refused_cause}
use Rattle.sql_tables.proofs.Tables.{delete_changes, insert_changes}
use Rattle.store_tables.specs.Tables.{store_schema}
use Rattle.store_tables.specs.Records.{EntryRow, FitsEntry, FitsInvocation, FitsSleep, FitsState, Holds, InvocationRow, Records, SleepRow, StateRow, Write, applied, applied_all, entry_cells, invocation_cells, sleep_cells, state_cells}
use Rattle.store_tables.specs.Statements.{statement, statements_of, statements_of_all}
use Rattle.store_tables.specs.Steps.{Alters, IsWriting, ChangesRecords, TurnsRecords}
use Rattle.store_tables.proofs.Caused.{survives_on}
use Rattle.store_tables.proofs.Matching.{Test, cells_match, match_cells, tests_of}

pub none_refers : NoneRefers store_schema
none_refers = (refl, (refl, (refl, (refl, (refl, tt)))))

-- ---- one table

-- the text adds a row of these cells to a table
pub record IsInsert (sql : List ℕ) (params cells : Row) (at : ℕ) (terms : List Term) (width : ℕ) : Type 0 where
  pub command : command_of (understood store_schema sql) ≡ Insert at (Values terms width)
  pub plain : IsPlain (understood store_schema sql)
  pub values : value_rows params width (length terms / width) terms ≡ (Null ∷ cells) ∷ []

pub inserted : (sql : List ℕ) (params cells : Row) (at : ℕ) (terms : List Term) (width : ℕ) → IsInsert sql params cells at terms width
    → (tree : ℕ) (name : List ℕ) (columns : List Column) (keys : List (List ℕ)) → slice_get store_schema.tables at ≡ Some (table_of tree name columns keys) → cast_all columns cells ≡ cells
    → (old new : State) → old.now.schema ≡ store_schema → HasRun sql params old new → ChangesTable store_schema tree (λ rows. rows ++ cells ∷ []) old.now new.now
inserted sql params cells at terms width it tree name columns keys found casts old new has run =
    insert_changes store_schema none_refers sql params old new has it.plain run.count run.ran tree name columns keys (plain_orders keys) at found terms width cells it.command it.values casts

-- the text drops the rows of a table that pass
pub record IsDelete (sql : List ℕ) (tree at : ℕ) (tests : List Test) : Type 0 where
  pub command : command_of (understood store_schema sql) ≡ Delete at (program_of (rows_of tree (tests_of tests) (col 1 0 ∷ []) []))
  pub plain : IsPlain (understood store_schema sql)

pub dropped : {X : Type 0} (sql : List ℕ) (params : Row) (tree at : ℕ) (tests : List Test) → IsDelete sql tree at tests
    → (name : List ℕ) (columns : List Column) (keys : List (List ℕ)) → slice_get store_schema.tables at ≡ Some (table_of tree name columns keys)
    → (cells : X → Row) (test : X → Bool) → ((x : X) → match_cells params tests (cells x) ≡ test x)
    → (old new : State) → old.now.schema ≡ store_schema → HasRun sql params old new
    → (new.now.schema ≡ store_schema) × (KeepsOthers store_schema tree old.now new.now
    × ((xs : List X) → HasRows (old.now.trees tree) (map cells xs) → HasRows (new.now.trees tree) (map cells (filter (λ x. not (test x)) xs))))
dropped sql params tree at tests it name columns keys found cells test is old new has run =
    let keeps = λ (row : Row). not (match_cells params tests row) in
    let change = delete_changes store_schema none_refers sql params old new has it.plain run.count run.ran tree name columns keys (plain_orders keys) at found (tests_of tests) keeps it.command (λ r. ap not (cells_match params tests r)) in (
      change.schema,
      (
        change.others,
        λ xs h. subst (HasRows (new.now.trees tree)) (filter-map keeps cells xs ∙ ap (map cells) (filter_same _ _ (λ x. ap not (is x)) xs)) (change.rows _ h),
      ),
    )

-- a table that a statement did not touch
kept_rows : (old new : Trees) (tree : ℕ) (rows : List Row) → new tree ≡ old tree → HasRows (old tree) rows → HasRows (new tree) rows
kept_rows old new tree rows same h = subst (λ t. HasRows t rows) (sym same) h

-- the records of one table are others
module _ (old new : Database) (r : Records) (h : Holds old.trees r) where
  pub invocations_turned : KeepsOthers store_schema 1 old new → (is : List InvocationRow) → HasRows (new.trees 1) (map invocation_cells is) → AllByRecursion FitsInvocation is → Holds new.trees (record r { invocations = is })
  invocations_turned others is rows fit = record {
    mark = kept_rows old.trees new.trees 3 _ (others.1.1.0 (λ e. omega arith)) h.mark;
    invocations = rows;
    entries = kept_rows old.trees new.trees 0 _ (others.0 (λ e. omega arith)) h.entries;
    states = kept_rows old.trees new.trees 5 _ (others.1.1.1.1.0 (λ e. omega arith)) h.states;
    sleeps = kept_rows old.trees new.trees 4 _ (others.1.1.1.0 (λ e. omega arith)) h.sleeps;
    fit_invocations = fit;
    fit_entries = h.fit_entries;
    fit_states = h.fit_states;
    fit_sleeps = h.fit_sleeps;
  }

  pub entries_turned : KeepsOthers store_schema 0 old new → (es : List EntryRow) → HasRows (new.trees 0) (map entry_cells es) → AllByRecursion FitsEntry es → Holds new.trees (record r { entries = es })
  entries_turned others es rows fit = record {
    mark = kept_rows old.trees new.trees 3 _ (others.1.1.0 (λ e. omega arith)) h.mark;
    invocations = kept_rows old.trees new.trees 1 _ (others.1.0 (λ e. omega arith)) h.invocations;
    entries = rows;
    states = kept_rows old.trees new.trees 5 _ (others.1.1.1.1.0 (λ e. omega arith)) h.states;
    sleeps = kept_rows old.trees new.trees 4 _ (others.1.1.1.0 (λ e. omega arith)) h.sleeps;
    fit_invocations = h.fit_invocations;
    fit_entries = fit;
    fit_states = h.fit_states;
    fit_sleeps = h.fit_sleeps;
  }

  pub states_turned : KeepsOthers store_schema 5 old new → (ss : List StateRow) → HasRows (new.trees 5) (map state_cells ss) → AllByRecursion FitsState ss → Holds new.trees (record r { states = ss })
  states_turned others ss rows fit = record {
    mark = kept_rows old.trees new.trees 3 _ (others.1.1.0 (λ e. omega arith)) h.mark;
    invocations = kept_rows old.trees new.trees 1 _ (others.1.0 (λ e. omega arith)) h.invocations;
    entries = kept_rows old.trees new.trees 0 _ (others.0 (λ e. omega arith)) h.entries;
    states = rows;
    sleeps = kept_rows old.trees new.trees 4 _ (others.1.1.1.0 (λ e. omega arith)) h.sleeps;
    fit_invocations = h.fit_invocations;
    fit_entries = h.fit_entries;
    fit_states = fit;
    fit_sleeps = h.fit_sleeps;
  }

  pub sleeps_turned : KeepsOthers store_schema 4 old new → (ss : List SleepRow) → HasRows (new.trees 4) (map sleep_cells ss) → AllByRecursion FitsSleep ss → Holds new.trees (record r { sleeps = ss })
  sleeps_turned others ss rows fit = record {
    mark = kept_rows old.trees new.trees 3 _ (others.1.1.0 (λ e. omega arith)) h.mark;
    invocations = kept_rows old.trees new.trees 1 _ (others.1.0 (λ e. omega arith)) h.invocations;
    entries = kept_rows old.trees new.trees 0 _ (others.0 (λ e. omega arith)) h.entries;
    states = kept_rows old.trees new.trees 5 _ (others.1.1.1.1.0 (λ e. omega arith)) h.states;
    sleeps = rows;
    fit_invocations = h.fit_invocations;
    fit_entries = h.fit_entries;
    fit_states = h.fit_states;
    fit_sleeps = fit;
  }

-- ---- one statement

abbrev pub Moves : (Records → Records) → State → State → Type 0
Moves change old new = (new.now.schema ≡ store_schema) × TurnsRecords change old.now.trees new.now.trees

module _ {S : Type 0} (g : Ghosts S) (change : Records → Records) (sql : List ℕ) (params : Row) (old new : Held S) (it : IsChange store_schema sql params) (writing : IsWriting (state g old))
    (survives : Survives (state g old) (state g new) (λ _. ⊥)) (clean : HasCleanDisk (state g new)) where
  early : HasCleanDisk (state g old)
  early = omega (arith, survives.clean, clean)

  has : IsTrue (state g old).is_open → (state g old).now.schema ≡ store_schema
  has opened = writing.0 early opened

  pub step_of : HasRun sql params (state g old) (state g new) → Moves change (state g old) (state g new) → ChangesRecords change (statement sql params ∷ []) (state g old) (state g new)
  step_of run moved = record {
    was_open = run.was_open;
    schema = moved.0;
    inside = run.inside;
    records = moved.1;
    made = has_made store_schema sql params (state g old) (state g new) has it run;
  }

  pub cause_of : (e : Error) → RefusesToRun sql params (state g old) (state g new) e → IsCauseToWrite (statement sql params ∷ []) (state g old) (state g new) e
  cause_of e refused = refused_cause store_schema sql params (state g old) (state g new) has it e (writing.1 early) refused

-- what a statement that was run has done
module _ {S : Type 0} (g : Ghosts S) (change : Records → Records) (sql : List ℕ) (params : Row) (old new : Held S) (it : IsChange store_schema sql params)
    (moves : (a b : State) → a.now.schema ≡ store_schema → HasRun sql params a b → Moves change a b) (writing : IsWriting (state g old)) (survives : Survives (state g old) (state g new) (λ _. ⊥)) where
  told_of : (result : Result (Unit {0}) Error) → (HasCleanDisk (state g new) → IfErr result (RefusesToRun sql params (state g old) (state g new))) → IfErr result (TellsWriteCause (statement sql params ∷ []) (state g old) (state g new))
  told_of (Ok x) refused = tt
  told_of (Err e) refused = λ clean. cause_of g change sql params old new it writing survives clean e (refused clean)

  altered_by : (result : Result (Unit {0}) Error) → (HasCleanDisk (state g new) → OnOk result (HasRun sql params (state g old) (state g new)))
      → (HasCleanDisk (state g new) → IfErr result (RefusesToRun sql params (state g old) (state g new))) → (HasCleanDisk (state g new) → KeepsCommit (state g old) (state g new))
      → Alters g change (statement sql params ∷ []) old new result
  altered_by result ran refused kept = record {
    done = λ clean. on_ok result (ran clean) (λ run. step_of g change sql params old new it writing survives clean run (moves (state g old) (state g new) (has g change sql params old new it writing survives clean run.was_open) run));
    why = told_of result refused;
    kept = kept;
    survives = survives;
  }

  -- its parameters given as they were bound
  pub altered : (given : Row) → given ≡ params → (result : Result (Unit {0}) Error) → (HasCleanDisk (state g new) → OnOk result (HasRun sql given (state g old) (state g new)))
      → (HasCleanDisk (state g new) → IfErr result (RefusesToRun sql given (state g old) (state g new))) → (HasCleanDisk (state g new) → KeepsCommit (state g old) (state g new))
      → Alters g change (statement sql params ∷ []) old new result
  altered given same result ran refused kept =
      altered_by result
      (subst (λ (r : Row). HasCleanDisk (state g new) → OnOk result (HasRun sql r (state g old) (state g new))) same ran)
      (subst (λ (r : Row). HasCleanDisk (state g new) → IfErr result (RefusesToRun sql r (state g old) (state g new))) same refused) kept

-- ---- one after another

pub steps_then : (f g : Records → Records) (xs ys : List Statement) (a b c : State) → b.step_limit ≡ a.step_limit → ChangesRecords f xs a b → ChangesRecords g ys b c → ChangesRecords (λ r. g (f r)) (xs ++ ys) a c
steps_then f g xs ys a b c limit one two = record {
  was_open = one.was_open;
  schema = two.schema;
  inside = two.inside;
  records = λ r h. two.records (f r) (one.records r h);
  made = made_then a.step_limit xs ys a.now b.now c.now one.made (subst (λ (l : Option ℕ). AreMade l ys b.now c.now) limit two.made);
}

-- the second was refused, behind the first
told_behind : {A : Type 0} (xs ys : List Statement) (f : Records → Records) (a b c : State) (D : Trees → Type 0) → (HasCleanDisk b → ChangesRecords f xs a b) → Survives a b (λ _. ⊥) → Survives b c D
    → (result : Result A Error) → IfErr result (TellsWriteCause ys b c) → IfErr result (TellsWriteCause (xs ++ ys) a c)
told_behind xs ys f a b c D done first then (Ok x) tells = tt
told_behind xs ys f a b c D done first then (Err e) tells = λ clean.
    let it = done (omega (arith, then.clean, clean)) in
    write_cause_later a b c (λ _. ⊥) D e first then xs ys (λ was. (it.was_open, it.made)) clean (tells clean)

-- two in turn, of which the first went well
pub altered_then : {S : Type 0} (g : Ghosts S) (f h : Records → Records) (xs ys : List Statement) (a b c : Held S) (result : Result (Unit {0}) Error)
    → (HasCleanDisk (state g b) → ChangesRecords f xs (state g a) (state g b)) → (HasCleanDisk (state g b) → KeepsCommit (state g a) (state g b)) → Survives (state g a) (state g b) (λ _. ⊥) → Alters g h ys b c result
    → Alters g (λ r. h (f r)) (xs ++ ys) a c result
altered_then g f h xs ys a b c result done kept survives two = record {
  done = λ clean. on_ok result (two.done clean) (steps_then f h xs ys (state g a) (state g b) (state g c) survives.limit (done (omega (arith, two.survives.clean, clean))));
  why = told_behind xs ys f (state g a) (state g b) (state g c) (λ _. ⊥) done survives two.survives result two.why;
  kept = λ clean. keeps_on (state g a) (state g b) (state g c) (kept (omega (arith, two.survives.clean, clean))) (two.kept clean);
  survives = survives_on (state g a) (state g b) (state g c) survives two.survives;
}

-- or it was refused already
pub altered_first : {S : Type 0} (g : Ghosts S) (h : Records → Records) (xs ys : List Statement) (a b : Held S) (e : Error) (result : Result (Unit {0}) Error) → IsErrAnd result (λ other. other ≡ e)
    → TellsWriteCause xs (state g a) (state g b) e → (HasCleanDisk (state g b) → KeepsCommit (state g a) (state g b)) → Survives (state g a) (state g b) (λ _. ⊥)
    → Alters g h (xs ++ ys) a b result
altered_first g h xs ys a b e (Ok x) gives tells kept survives = absurd gives
altered_first g h xs ys a b e (Err other) gives tells kept survives = record {
  done = λ clean. tt;
  why = λ clean. subst (IsCauseToWrite (xs ++ ys) (state g a) (state g b)) (sym gives) (write_cause_more xs ys (state g a) (state g b) e (tells clean));
  kept = kept;
  survives = survives;
}

applied_last : (ws : List Write) (w : Write) (r : Records) → applied_all (ws ++ w ∷ []) r ≡ applied w (applied_all ws r)
applied_last [] w r = refl
applied_last (v ∷ ws) w r = applied_last ws w (applied v r)

statements_last : (ws : List Write) (w : Write) → statements_of_all (ws ++ w ∷ []) ≡ statements_of_all ws ++ statements_of w
statements_last [] w = append-nil (statements_of w)
statements_last (v ∷ ws) w = ap (λ (xs : List Statement). statements_of v ++ xs) (statements_last ws w) ∙ sym (append_assoc (statements_of v) (statements_of_all ws) (statements_of w))

pub steps_on : (ws : List Write) (w : Write) (a b c : State) → b.step_limit ≡ a.step_limit → ChangesRecords (applied_all ws) (statements_of_all ws) a b → ChangesRecords (applied w) (statements_of w) b c
    → ChangesRecords (applied_all (ws ++ w ∷ [])) (statements_of_all (ws ++ w ∷ [])) a c
steps_on ws w a b c limit one two =
    let both = steps_then (applied_all ws) (applied w) (statements_of_all ws) (statements_of w) a b c limit one two in
    record {
      was_open = both.was_open;
      schema = both.schema;
      inside = both.inside;
      records = λ r h. rw applied_last (both.records r h);
      made = subst (λ (xs : List Statement). AreMade a.step_limit xs a.now c.now) (sym (statements_last ws w)) both.made;
    }

pub turns_on : (ws : List Write) (w : Write) (a b c : Trees) → TurnsRecords (applied_all ws) a b → TurnsRecords (applied w) b c → TurnsRecords (applied_all (ws ++ w ∷ [])) a c
turns_on ws w a b c one two = λ r h. rw applied_last (two (applied_all ws r) (one r h))
