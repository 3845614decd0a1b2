-- No statement of a write is refused for a rowid that is taken, and each leaves tables behind it whose rows ascend.
use Rattle.std.proofs.Common.{◌≡◌, ◌∙◌, ◌≤◌, ℕ, ℤ, inl, inr, Bool, true, false, true≢false, not, is_eq, List, [], ◌∷◌, drop, filter, length, map, slice_get, Option, Some, Ok, Err, codes, refl, sym, ap, subst, arith}
use Rattle.std.specs.List.{AllByRecursion, list_any}
use Rattle.std.specs.List.Sorted.{IsPermutation}
use Rattle.std.proofs.lemmas.Bool.{false_from_ne_true}
use Rattle.std.proofs.lemmas.List.{length-map}
use Rattle.std.proofs.lemmas.List.Sorted.{IsPermutation-map, length_permutation}
use Rattle.sqlite.specs.declared.types.Value.TheVariants.{Blob, Int, Null, Text}
use Rattle.sqlite_value.specs.Order.{Row, value_cmp}
use Rattle.sqlite_trees.specs.Tree.{Trees, has_rowid, put_row, rowid}
use Rattle.sqlite_trees.specs.View.{is_int}
use Rattle.sqlite_trees.proofs.ListLemmas as trees
use Rattle.sqlite_typing.specs.Types.{accepts_program, accepts_terms}
use Rattle.sqlite_sql.specs.Program.{overlay}
use Rattle.sqlite_schema.specs.Program.{lets_of}
use Rattle.sqlite_schema.specs.declared.program.Program.{Program}
use Rattle.sqlite_schema.specs.declared.schema.Column.{Column}
use Rattle.sqlite_schema.specs.declared.schema.Keys.TheVariants.{Enforced}
use Rattle.sqlite_keyed.proofs.ListLemmas.{all-append, all_from_test, all_map, filter-map, map-map}
use Rattle.sqlite_rules.specs.Calls.{ids_of}
use Rattle.sqlite_rules.specs.Edit.{are_fresh, edit_of, id_in, next_rowid, put_all, without_all}
use Rattle.sqlite_rules.specs.Lists.{Has}
use Rattle.sqlite_rules.proofs.ListLemmas.{all_from, all_has, has_filtered, has_kept, some_has}
use Rattle.sqlite_rules.proofs.PlaceLemmas.{given}
use Rattle.sqlite.specs.Cast.{cast_all, cast_row}
use Rattle.sqlite.specs.Command.TheVariants.{Delete, Insert, Update}
use Rattle.sqlite.specs.Rowids.TheVariants.{Chosen, Given}
use Rattle.sqlite.specs.Source.TheVariants.{Values}
use Rattle.sqlite.specs.Table.{Table}
use Rattle.sqlite.specs.Does.{Tally}
use Rattle.sqlite.specs.Effect.{Answers, Database}
use Rattle.sqlite.specs.Term.{Term, col, eval_all}
use Rattle.sql_tables.specs.Causes.{AreRefused, StatementComesTo, IsRefusedFor, Statement, enforced}
use Rattle.sql_tables.specs.Cells.{long_cell}
use Rattle.sql_tables.specs.Columns.{plain_orders, table_of}
use Rattle.sql_tables.specs.Statements.{program_of, rows_of}
use Rattle.sql_tables.proofs.Answers.{answered, no_let, passes, shows}
use Rattle.sql_tables.proofs.Comes.{comes_as}
use Rattle.sql_tables.proofs.Places.{changed, insert_stops, refused_as}
use Rattle.sql_tables.proofs.Refusals.{delete_refused, update_refused}
use Rattle.sql_tables.proofs.Rows.{deleted}
use Rattle.sql_tables.proofs.Tables.{cells, rewrites}
use Rattle.sql_tables.proofs.Writes.{cast_null, delete_does, insert_does, update_does}
use Rattle.store_tables.specs.Tables.{entry_columns, entry_keys, invocation_columns, invocation_keys, sleep_columns, sleep_keys, state_columns, state_keys, store_schema}
use Rattle.store_tables.specs.Statements.{add_entry_text, add_invocation_text, add_state_text, close_sleeps_text, close_sleeps_until_text, drop_entries_text, drop_invocation_text, drop_state_text, drop_states_text, open_sleep_text, set_progress_text, statement, statements_of, statements_of_all}
use Rattle.store_tables.specs.Records.{entry_cells, invocation_cells, progress_cells, sleep_cells, state_cells}
use Rattle.store_tables.specs.declared.row.EntryRow.{EntryRow}
use Rattle.store_tables.specs.declared.row.InvocationRow.{InvocationRow}
use Rattle.store_tables.specs.declared.row.Progress.{Progress}
use Rattle.store_tables.specs.declared.row.SleepRow.{SleepRow}
use Rattle.store_tables.specs.declared.row.StateRow.{StateRow}
use Rattle.store_tables.specs.declared.row.Write.{Write}
use Rattle.store_tables.specs.declared.row.Write.TheVariants.{AddInvocation, AddEntry, CloseSleeps, CloseSleepsUntil, DropEntries, DropInvocation, DropState, DropStates, OpenSleep, PutState, SetProgress}
use Rattle.store_tables.proofs.Matching.{Test, equal, tests_of, until}
use Rattle.store_tables.proofs.Moves.{IsDelete, IsInsert, none_refers}
use Rattle.store_tables.proofs.Refusals.{HasInvocations, IsTame, accepts_entry, accepts_invocation, accepts_progress, accepts_sleep, accepts_state, no_sums, no_sums_set}
use Rattle.store_tables.proofs.Refusals as tame
use Rattle.store_tables.proofs.Entries as entries
use Rattle.store_tables.proofs.Invocations as invocations
use Rattle.store_tables.proofs.Sleeps as sleeps
use Rattle.store_tables.proofs.States as states
use Rattle.store_sql_laws.specs.Rowids.{NoRowidIsTaken, TablesAscend, rowid_taken}
use Rattle.store_sql_laws.proofs.Ascending.{Ascend, all_fresh, chosen_fresh, left_ascend, never_for_rowid, put_all_ascend, put_ascends, tables_ascend}
use Rattle.store_sql_laws.proofs.Records.{fewer}
use Rattle.store_sql_laws.proofs.Rows.{from_mapped, only, own_rowid}

-- it is not refused for a rowid, and leaves tables behind it that are in order
pub record IsFree (limit : Option ℕ) (one : Statement) : Type 0 where
  pub is_tame : IsTame limit one
  pub never : (db : Database) → HasInvocations db → TablesAscend db.trees → IsRefusedFor limit one db rowid_taken → ⊥
  pub comes : (db new : Database) → HasInvocations db → TablesAscend db.trees → (tally : Tally) → StatementComesTo limit one db (Ok (tally, new)) → TablesAscend new.trees

-- the rows of one of the tables ascend
abbrev Picks : ℕ → Type 0
Picks tree = (db : Trees) → TablesAscend db → Ascend (db tree)

module _ (limit : Option ℕ) where
  -- ---- INSERT

  module _ (sql : List ℕ) (row : Row) (at : ℕ) (terms : List Term) (width : ℕ) (it : IsInsert sql row row at terms width) (tree : ℕ) (name : List ℕ) (columns : List Column) (keys : List (List ℕ))
      (found : slice_get store_schema.tables at ≡ Some (table_of tree name columns keys)) (accepts : accepts_terms terms row ≡ true) (casts : cast_all columns row ≡ row) (pick : Picks tree) where
    free_insert : IsTame limit (statement sql row) → IsFree limit (statement sql row)
    free_insert known = record {
      is_tame = known;
      never = λ db h up refused.
          let stops = insert_stops store_schema none_refers limit (statement sql row) db h.schema it.plain tree name columns keys (plain_orders keys) at found rowid_taken refused terms width row it.command accepts it.values casts in
          never_for_rowid limit db.trees (record { table = table_of tree name columns keys; gone = []; news = (Int (next_rowid (db.trees tree)) ∷ row) ∷ [] }) stops.0 stops.1 stops.2 (chosen_fresh (db.trees tree) row (pick db.trees up));
      comes = λ db new h up tally comes.
          let does = comes_as store_schema none_refers limit (statement sql row) db h.schema it.plain (Insert at (Values terms width)) it.command (Ok (tally, new)) comes in
          let r = insert_does store_schema none_refers limit enforced row does.0 db.trees tally new tree name columns keys (plain_orders keys) at found terms width does.1 in
          let put : Row = Int (next_rowid (db.trees tree)) ∷ row in
          let news : (edit_of db.trees (table_of tree name columns keys) [] Chosen 0 r.1).news ≡ put ∷ [] = ap (λ all. (edit_of db.trees (table_of tree name columns keys) [] Chosen 0 all).news) (r.2.1 ∙ it.values) ∙ rw (cast_null, casts) refl in
          let rows : new.trees tree ≡ put_row put (db.trees tree) = r.3.rows ∙ ap (λ (l : List Row). put_all (db.trees tree) l) news in
          tables_ascend store_schema.tables tree db.trees new.trees (subst Ascend (sym rows) (put_ascends put (db.trees tree) refl (pick db.trees up))) r.3.tables up;
    }

  adds_entry : (e : EntryRow) → IsFree limit (statement add_entry_text (entry_cells e))
  adds_entry e = free_insert add_entry_text (entry_cells e) 0 entries.terms 10 (entries.adds e) 0 (codes "entry") entry_columns entry_keys refl (accepts_entry limit e) (entries.casts e) (λ db up. up.0) (tame.adds_entry limit e)

  adds_state : (s : StateRow) → IsFree limit (statement add_state_text (state_cells s))
  adds_state s = free_insert add_state_text (state_cells s) 4 states.terms 4 (states.adds s) 5 (codes "state") state_columns state_keys refl (accepts_state limit s) (states.casts s) (λ db up. up.1.1.1.1.0) (tame.adds_state limit s)

  opens_sleep : (s : SleepRow) → IsFree limit (statement open_sleep_text (sleep_cells s))
  opens_sleep s = free_insert open_sleep_text (sleep_cells s) 3 sleeps.terms 4 (sleeps.opens s) 4 (codes "sleep") sleep_columns sleep_keys refl (accepts_sleep limit s) (sleeps.casts s) (λ db up. up.1.1.1.0) (tame.opens_sleep limit s)

  adds_invocation : (i : InvocationRow) → IsFree limit (statement add_invocation_text (invocation_cells i))
  adds_invocation i =
      free_insert add_invocation_text (invocation_cells i) 1 invocations.terms 23 (invocations.adds i) 1 (codes "invocation") invocation_columns invocation_keys refl (accepts_invocation limit i) (invocations.casts i) (λ db up. up.1.0) (tame.adds_invocation limit i)

  -- ---- DELETE

  module _ (sql : List ℕ) (params : Row) (tree at : ℕ) (tests : List Test) (it : IsDelete sql tree at tests) (name : List ℕ) (columns : List Column) (keys : List (List ℕ))
      (found : slice_get store_schema.tables at ≡ Some (table_of tree name columns keys)) (pick : Picks tree) where
    abbrev those : Program
    those = program_of (rows_of tree (tests_of tests) (col 1 0 ∷ []) [])

    free_delete : accepts_program store_schema (lets_of those) those.body params ≡ true → IsTame limit (statement sql params) → IsFree limit (statement sql params)
    free_delete accepts known = record {
      is_tame = known;
      never = λ db h up refused.
          let stop = refused_as limit (statement sql params) db rowid_taken refused in
          let does = comes_as store_schema none_refers limit (statement sql params) db h.schema it.plain (Delete at those) it.command (Err stop.0) stop.1 in
          elim (delete_refused store_schema none_refers limit Enforced tree name columns keys (plain_orders keys) params enforced refl does.0 at found db.trees stop.0 those accepts
          (no_sums limit sql params tree at tests it name columns keys found db.trees) does.1) [
            | inl met ↦ never_for_rowid limit db.trees (edit_of db.trees (table_of tree name columns keys) [] Given 0 []) stop.0 stop.2 (inl met) refl
            | inr (ids, asked, stops) ↦ never_for_rowid limit db.trees (edit_of db.trees (table_of tree name columns keys) (ids_of ids) Given 0 []) stop.0 stop.2 (inr stops) refl
          ];
      comes = λ db new h up tally comes.
          let does = comes_as store_schema none_refers limit (statement sql params) db h.schema it.plain (Delete at those) it.command (Ok (tally, new)) comes in
          let r = delete_does store_schema none_refers limit enforced params does.0 db.trees tally new tree name columns keys (plain_orders keys) at found those does.1 in
          tables_ascend store_schema.tables tree db.trees new.trees (subst Ascend (sym r.3.rows) (left_ascend (ids_of r.1) (db.trees tree) (pick db.trees up))) r.3.tables up;
    }

  drops_state : (object key : List ℕ) → IsFree limit (statement drop_state_text (Text object ∷ Blob key ∷ []))
  drops_state object key =
      free_delete drop_state_text (Text object ∷ Blob key ∷ []) 5 4 (equal 0 0 ∷ equal 1 1 ∷ []) states.drops_key (codes "state") state_columns state_keys refl (λ db up. up.1.1.1.1.0) refl (tame.drops_state limit object key)

  drops_states : (object : List ℕ) → IsFree limit (statement drop_states_text (Text object ∷ []))
  drops_states object = free_delete drop_states_text (Text object ∷ []) 5 4 (equal 0 0 ∷ []) states.drops_object (codes "state") state_columns state_keys refl (λ db up. up.1.1.1.1.0) refl (tame.drops_states limit object)

  closes_sleeps : (invocation : List ℕ) → IsFree limit (statement close_sleeps_text (Text invocation ∷ []))
  closes_sleeps invocation = free_delete close_sleeps_text (Text invocation ∷ []) 4 3 (equal 1 0 ∷ []) sleeps.closes_own (codes "sleep") sleep_columns sleep_keys refl (λ db up. up.1.1.1.0) refl (tame.closes_sleeps limit invocation)

  closes_sleeps_until : (moment : ℕ) → IsFree limit (statement close_sleeps_until_text (long_cell moment ∷ []))
  closes_sleeps_until moment =
      free_delete close_sleeps_until_text (long_cell moment ∷ []) 4 3 (until 0 0 ∷ []) sleeps.closes_until (codes "sleep") sleep_columns sleep_keys refl (λ db up. up.1.1.1.0) refl (tame.closes_sleeps_until limit moment)

  drops_entries : (invocation : List ℕ) → IsFree limit (statement drop_entries_text (Text invocation ∷ []))
  drops_entries invocation = free_delete drop_entries_text (Text invocation ∷ []) 0 0 (equal 0 0 ∷ []) entries.drops_own (codes "entry") entry_columns entry_keys refl (λ db up. up.0) refl (tame.drops_entries limit invocation)

  drops_invocation : (id : List ℕ) → IsFree limit (statement drop_invocation_text (Text id ∷ []))
  drops_invocation id =
      free_delete drop_invocation_text (Text id ∷ []) 1 1 (equal 0 0 ∷ []) invocations.drops_own (codes "invocation") invocation_columns invocation_keys refl (λ db up. up.1.0) refl (tame.drops_invocation limit id)

  -- ---- UPDATE

  abbrev setting : Program
  setting = changed 1 (tests_of (equal 0 0 ∷ [])) invocations.sets

  module _ (id : List ℕ) (p : Progress) where
    abbrev params : Row
    params = Text id ∷ progress_cells p

    abbrev table : Table
    table = table_of 1 (codes "invocation") invocation_columns invocation_keys

    abbrev tests : List Term
    tests = tests_of (equal 0 0 ∷ [])

    abbrev project : List Term
    project = col 1 0 ∷ col 1 0 ∷ invocations.sets

    abbrev passing : Row → Bool
    passing = passes params tests

    abbrev made : Row → Row
    made r = cast_row table (drop 1 (eval_all project (params ∷ r ∷ [])))

    module _ (db : Database) (h : HasInvocations db) (rows : List Row) (asked : Answers (record { schema = store_schema; trees = db.trees }) setting params rows) where
      abbrev were : List Row
      were = filter passing (db.trees 1)

      abbrev written : List Row
      written = map (λ s. cast_row table (drop 1 s)) rows

      wrote : IsPermutation (map made were) written
      wrote = rewrites store_schema params Enforced db db 1 (codes "invocation") invocation_columns invocation_keys (plain_orders invocation_keys) tests invocations.sets rows asked

      int_there : (r : Row) → Has (db.trees 1) r → is_int (rowid r) ≡ true
      int_there r k = all_has (λ (r : Row). is_int (rowid r) ≡ true) (db.trees 1) r h.rows.numbered.ints k

      -- each keeps its rowid
      same_rowid : (r : Row) → Has (db.trees 1) r → rowid (made r) ≡ rowid r
      same_rowid r k = ap rowid (cells store_schema params Enforced db db 1 (codes "invocation") invocation_columns invocation_keys (plain_orders invocation_keys) invocations.sets r (int_there r k))

      there : (r : Row) → Has were r → Has (db.trees 1) r
      there r k = (has_filtered passing (db.trees 1) r k).0

      -- what is left are the rows that do not pass
      left : without_all (db.trees 1) (ids_of rows) ≡ filter (λ r. not (passing r)) (db.trees 1)
      left =
          let answer = answered 1 tests project [] (overlay db.trees []) params rows (asked.answer Null) in
          let listed = rw (no_let db.trees 1) at (shows 1 tests project [] (overlay db.trees []) params rows _ answer) in
          let ids : IsPermutation (map (λ r. rowid r ∷ []) were) (map (λ (a : Row). rowid a ∷ []) rows) =
          subst (λ l. IsPermutation l (map (λ (a : Row). rowid a ∷ []) rows)) (map-map (λ (a : Row). rowid a ∷ []) (λ row. eval_all project (params ∷ row ∷ [])) _) (IsPermutation-map (λ (a : Row). rowid a ∷ []) _ _ listed) in
          let same_ids : ids_of (map (λ (a : Row). rowid a ∷ []) rows) ≡ ids_of rows = map-map (λ (a : Row). id_in (rowid a)) (λ (a : Row). rowid a ∷ []) rows in
          ap (without_all (db.trees 1)) (sym same_ids) ∙ deleted passing (db.trees 1) (map (λ (a : Row). rowid a ∷ []) rows) h.rows.numbered ids

      ints : AllByRecursion (λ (r : Row). is_int (rowid r) ≡ true) written
      ints =
          trees.all-permutation (λ (r : Row). is_int (rowid r) ≡ true) (map made were) written wrote
          (all_map (λ (r : Row). is_int (rowid r) ≡ true) made were (all_from (λ (r : Row). is_int (rowid (made r)) ≡ true) were (λ r k. ap is_int (same_rowid r (there r k)) ∙ int_there r (there r k))))

      once : (id : ℤ) → length (filter (has_rowid id) written) ≤ 1
      once id =
          let same : filter (λ r. has_rowid id (made r)) were ≡ filter (has_rowid id) were =
          trees.filter_same (λ r. has_rowid id (made r)) (has_rowid id) were (all_from (λ (r : Row). has_rowid id (made r) ≡ has_rowid id r) were (λ r k. ap (λ v. is_eq (value_cmp v (Int id))) (same_rowid r (there r k)))) in
          let long : length (filter (has_rowid id) written) ≡ length (filter (has_rowid id) were) =
          length_permutation _ _ (trees.IsPermutation-filter (has_rowid id) _ _ wrote) ∙ ap length (filter-map (has_rowid id) made were) ∙ length-map (filter (λ r. has_rowid id (made r)) were) made ∙ ap length same in
          let less = fewer (has_rowid id) passing (db.trees 1) in
          let few = h.rows.numbered.apart id in
          rw long (omega (arith, less, few))

      free : (x : Row) → Has written x → list_any (has_rowid (id_in (rowid x))) (without_all (db.trees 1) (ids_of rows)) ≡ false
      free x k = false_from_ne_true _ (λ some.
          let hit = some_has (has_rowid (id_in (rowid x))) (without_all (db.trees 1) (ids_of rows)) some in
          let stays = has_filtered (λ r. not (passing r)) (db.trees 1) hit.0 (subst (λ l. Has l hit.0) left hit.1) in
          let from = from_mapped made were x (all_has (Has (map made were)) written x (trees.all-permutation (Has (map made were)) (map made were) written wrote (all_from (Has (map made were)) (map made were) (λ e j. j))) k) in
          let passed = has_filtered passing (db.trees 1) from.0 from.1 in
          let id = id_in (rowid x) in
          let own : has_rowid id from.0 ≡ true = subst (λ v. has_rowid (id_in v) from.0 ≡ true) (sym (ap rowid from.2 ∙ same_rowid from.0 passed.0)) (own_rowid from.0 (int_there from.0 passed.0)) in
          let one : from.0 ≡ hit.0 = only (filter (has_rowid id) (db.trees 1)) from.0 hit.0 (h.rows.numbered.apart id) (has_kept (has_rowid id) (db.trees 1) from.0 passed.0 own) (has_kept (has_rowid id) (db.trees 1) hit.0 stays.0 hit.2) in
          true≢false (sym stays.1 ∙ ap (λ r. not (passing r)) (sym one) ∙ ap not passed.1))

      fresh : are_fresh (without_all (db.trees 1) (ids_of rows)) (edit_of db.trees table (ids_of rows) Given 1 rows).news ≡ true
      fresh = subst (λ l. are_fresh (without_all (db.trees 1) (ids_of rows)) l ≡ true) (sym (given (without_all (db.trees 1) (ids_of rows)) written)) (all_fresh written (without_all (db.trees 1) (ids_of rows)) ints once free)

    sets_progress : IsFree limit (statement set_progress_text params)
    sets_progress = record {
      is_tame = tame.sets_progress limit id p;
      never = λ db h up refused.
          let stop = refused_as limit (statement set_progress_text params) db rowid_taken refused in
          let does = comes_as store_schema none_refers limit (statement set_progress_text params) db h.schema invocations.set_plain (Update 1 setting) invocations.set_is (Err stop.0) stop.1 in
          elim (update_refused store_schema none_refers limit Enforced 1 (codes "invocation") invocation_columns invocation_keys (plain_orders invocation_keys) params enforced refl does.0 1 refl db.trees stop.0 setting (accepts_progress limit id p)
          (no_sums_set limit id p db.trees) does.1) [
            | inl met ↦ never_for_rowid limit db.trees (edit_of db.trees table [] Given 0 []) stop.0 stop.2 (inl met) refl
            | inr (rows, asked, stops) ↦ never_for_rowid limit db.trees (edit_of db.trees table (ids_of rows) Given 1 rows) stop.0 stop.2 (inr stops) (fresh db h rows asked)
          ];
      comes = λ db new h up tally comes.
          let does = comes_as store_schema none_refers limit (statement set_progress_text params) db h.schema invocations.set_plain (Update 1 setting) invocations.set_is (Ok (tally, new)) comes in
          let r = update_does store_schema none_refers limit enforced params does.0 db.trees tally new 1 (codes "invocation") invocation_columns invocation_keys (plain_orders invocation_keys) 1 refl setting does.1 in
          let news = (edit_of db.trees table (ids_of r.1) Given 1 r.1).news in
          tables_ascend store_schema.tables 1 db.trees new.trees
          (subst Ascend (sym r.3.rows) (put_all_ascend news (without_all (db.trees 1) (ids_of r.1)) (all_from_test (λ (row : Row). is_int (rowid row)) news r.3.keyed) (left_ascend (ids_of r.1) (db.trees 1) up.1.0))) r.3.tables up;
    }

  -- ---- one after another

  free_write : (write : Write) → AllByRecursion (IsFree limit) (statements_of write)
  free_write (AddInvocation invocation) = (adds_invocation invocation, tt)
  free_write (SetProgress id progress) = (sets_progress id progress, tt)
  free_write (AddEntry entry) = (adds_entry entry, tt)
  free_write (PutState state) = (drops_state state.object state.key, (adds_state state, tt))
  free_write (DropState object key) = (drops_state object key, tt)
  free_write (DropStates object) = (drops_states object, tt)
  free_write (OpenSleep sleep) = (opens_sleep sleep, tt)
  free_write (CloseSleeps invocation) = (closes_sleeps invocation, tt)
  free_write (CloseSleepsUntil moment) = (closes_sleeps_until moment, tt)
  free_write (DropInvocation id) = (drops_invocation id, tt)
  free_write (DropEntries invocation) = (drops_entries invocation, tt)

  all_free : (writes : List Write) → AllByRecursion (IsFree limit) (statements_of_all writes)
  all_free [] = tt
  all_free (write ∷ writes) = all-append (IsFree limit) (statements_of write) (statements_of_all writes) (free_write write) (all_free writes)

  never : (statements : List Statement) → AllByRecursion (IsFree limit) statements → (db : Database) → HasInvocations db → TablesAscend db.trees → AreRefused limit statements db rowid_taken → ⊥
  never [] all db h up none = none
  never (one ∷ more) all db h up (inl refused) = all.0.never db h up refused
  never (one ∷ more) all db h up (inr (tally, mid, comes, then)) = never more all.1 mid (all.0.is_tame.comes db mid h tally comes) (all.0.comes db mid h up tally comes) then

pub no_rowid_is_taken : NoRowidIsTaken
no_rowid_is_taken limit writes before records has held up =
    never limit (statements_of_all writes) (all_free limit writes) before (record { schema = has; invocations = records.invocations; rows = held.invocations }) up
