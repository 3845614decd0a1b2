-- No statement of a write that is new is refused for a key, and each leaves tables behind it whose keys are apart.
use Rattle.std.proofs.Common.{◌≡◌, ◌∙◌, ◌++◌, ℕ, inl, inr, Bool, true, not, List, [], ◌∷◌, drop, filter, map, slice_get, Option, Some, Ok, Err, codes, refl, sym, ap, subst, arith}
use Rattle.std.proofs.lemmas.List.{map-append}
use Rattle.sqlite.specs.declared.types.Value.TheVariants.{Blob, Int, Text}
use Rattle.sqlite_value.specs.Order.{Row, column}
use Rattle.sqlite_trees.specs.Tree.{put_row, rowid, with_tree}
use Rattle.sqlite_trees.specs.View.{is_int}
use Rattle.sqlite_trees.proofs.ListLemmas.{all-permutation}
use Rattle.sqlite_typing.specs.Types.{accepts_program, accepts_terms}
use Rattle.sqlite_schema.specs.Program.{lets_of}
use Rattle.sqlite_schema.specs.Rules.{Keeps}
use Rattle.sqlite_schema.specs.declared.program.Program.{Program}
use Rattle.sqlite_schema.specs.declared.schema.Column.{Column}
use Rattle.sqlite_schema.specs.declared.schema.Constraint.TheVariants.{Unique}
use Rattle.sqlite_schema.specs.declared.schema.Keys.TheVariants.{Enforced}
use Rattle.sqlite_keyed.proofs.ListLemmas.{filter-map, filter_same, map-map, map_same}
use Rattle.sqlite_rules.specs.Calls.{ids_of}
use Rattle.sqlite_rules.specs.Edit.{edit_of, edited, next_rowid, put_all, without_all}
use Rattle.sqlite_rules.specs.Lists.{Has}
use Rattle.sqlite_rules.proofs.ListLemmas.{all_from, all_has, has_filtered}
use Rattle.sqlite_rules.proofs.PlaceLemmas.{agrees_itself, given}
use Rattle.sqlite_rules.proofs.TableLemmas.{put_all_has, without_all_has}
use Rattle.sqlite.specs.Cast.{cast_all, cast_row}
use Rattle.sqlite.specs.Command.TheVariants.{Delete, Update}
use Rattle.sqlite.specs.Rowids.TheVariants.{Given}
use Rattle.sqlite.specs.Does.{Tally}
use Rattle.sqlite.specs.Effect.{Answers, Database}
use Rattle.sqlite.specs.Term.{Term, col, eval_all}
use Rattle.sql_tables.specs.Causes.{StatementComesTo, IsRefusedFor, Statement, enforced}
use Rattle.sql_tables.specs.Cells.{long_cell}
use Rattle.sql_tables.specs.Changes.{ChangesTable}
use Rattle.sql_tables.specs.Columns.{plain_orders, table_of}
use Rattle.sql_tables.specs.Content.{HasRows}
use Rattle.sql_tables.specs.Statements.{program_of, rows_of}
use Rattle.sql_tables.proofs.Comes.{comes_as, delete_comes, insert_comes, update_comes}
use Rattle.sql_tables.proofs.Places.{changed, insert_stops, refused_as}
use Rattle.sql_tables.proofs.Refusals.{delete_refused, update_refused}
use Rattle.sql_tables.proofs.Tables.{cells, rewrites}
use Rattle.store_tables.specs.Tables.{entry_columns, entry_keys, invocation_columns, invocation_keys, sleep_columns, sleep_keys, state_columns, state_keys, store_schema}
use Rattle.store_tables.specs.Statements.{add_entry_text, add_invocation_text, add_state_text, close_sleeps_text, close_sleeps_until_text, drop_entries_text, drop_invocation_text, drop_state_text, drop_states_text, open_sleep_text, set_progress_text, statement}
use Rattle.store_tables.specs.Questions.{has_id}
use Rattle.store_tables.specs.Records.{Records, entry_cells, invocation_cells, is_at_key, is_named, is_of_object, progress_cells, set_in, sleep_cells, state_cells, with_entry, with_invocation, with_progress, with_sleep, with_state, without_entries, without_invocation, without_sleeps, without_sleeps_until, without_state, without_states}
use Rattle.store_tables.specs.declared.row.EntryRow.{EntryRow}
use Rattle.store_tables.specs.declared.row.InvocationRow.{InvocationRow}
use Rattle.store_tables.specs.declared.row.Progress.{Progress}
use Rattle.store_tables.specs.declared.row.SleepRow.{SleepRow}
use Rattle.store_tables.specs.declared.row.StateRow.{StateRow}
use Rattle.sql_tables.proofs.Answers.{passes}
use Rattle.store_tables.proofs.Matching.{Test, cells_match, column_there, equal, match_cells, one_test, tests_of, two_tests, until}
use Rattle.store_tables.proofs.Moves.{IsDelete, IsInsert, none_refers}
use Rattle.store_tables.proofs.Refusals.{accepts_entry, accepts_invocation, accepts_progress, accepts_sleep, accepts_state, no_sums, no_sums_set, written}
use Rattle.store_tables.proofs.Entries as entries
use Rattle.store_tables.proofs.Invocations as invocations
use Rattle.store_tables.proofs.Sleeps as sleeps
use Rattle.store_tables.proofs.States as states
use Rattle.sql_tables.proofs.Cells.{same_blob, same_text}
use Rattle.store_sql_laws.specs.Keys.{key_taken}
use Rattle.store_sql_laws.proofs.Records.{apart_among, apart_begun, apart_left, apart_set, apart_with}
use Rattle.store_sql_laws.proofs.Rows.{IsTwin, apart_fewer, apart_put, apart_twins, from_mapped, keeps_unique, stands_for}
use Rattle.store_sql_laws.proofs.Stands.{Stands, elsewhere, ids_apart, keys_apart, never_for_key, new_id, new_key, with_invocations, with_states}

-- it is not refused for a key, and turns the records so
pub record IsSpared (limit : Option ℕ) (one : Statement) (r after : Records) : Type 0 where
  pub never : (db : Database) → Stands db r → IsRefusedFor limit one db key_taken → ⊥
  pub comes : (db new : Database) → Stands db r → (tally : Tally) → StatementComesTo limit one db (Ok (tally, new)) → Stands new after

module _ (limit : Option ℕ) where
  -- ---- INSERT

  module _ (sql : List ℕ) (row : Row) (at : ℕ) (terms : List Term) (width : ℕ) (it : IsInsert sql row row at terms width) (tree : ℕ) (name : List ℕ) (columns : List Column) (keys : List (List ℕ))
      (found : slice_get store_schema.tables at ≡ Some (table_of tree name columns keys)) (accepts : accepts_terms terms row ≡ true) (casts : cast_all columns row ≡ row) (db : Database) (has : db.schema ≡ store_schema) where
    never_insert : Keeps Unique store_schema (with_tree db.trees tree (put_row (Int (next_rowid (db.trees tree)) ∷ row) (db.trees tree))) → IsRefusedFor limit (statement sql row) db key_taken → ⊥
    never_insert keeps refused =
        let stops = insert_stops store_schema none_refers limit (statement sql row) db has it.plain tree name columns keys (plain_orders keys) at found key_taken refused terms width row it.command accepts it.values casts in
        never_for_key limit db.trees (record { table = table_of tree name columns keys; gone = []; news = (Int (next_rowid (db.trees tree)) ∷ row) ∷ [] }) stops.0 stops.1 stops.2 keeps

    changed_by : (tally : Tally) (new : Database) → StatementComesTo limit (statement sql row) db (Ok (tally, new)) → ChangesTable store_schema tree (λ rows. rows ++ row ∷ []) db new
    changed_by tally new comes =
        insert_comes store_schema none_refers limit (statement sql row) db has it.plain tree name columns keys (plain_orders keys) at found tally new comes terms width row it.command it.values casts

  pub adds_entry : (e : EntryRow) (r : Records) → IsSpared limit (statement add_entry_text (entry_cells e)) r (with_entry e r)
  adds_entry e r = record {
    never = λ db h. never_insert add_entry_text (entry_cells e) 0 entries.terms 10 (entries.adds e) 0 (codes "entry") entry_columns entry_keys refl (accepts_entry limit e) (entries.casts e) db h.schema
        (keeps_unique (with_tree db.trees 0 (put_row (Int (next_rowid (db.trees 0)) ∷ entry_cells e) (db.trees 0))) (ids_apart db r h) (keys_apart db r h));
    comes = λ db new h tally comes.
        let change = changed_by add_entry_text (entry_cells e) 0 entries.terms 10 (entries.adds e) 0 (codes "entry") entry_columns entry_keys refl (accepts_entry limit e) (entries.casts e) db h.schema tally new comes in
        elsewhere db r h 0 (λ same. omega (arith, same)) (λ same. omega (arith, same)) new change.schema change.others (with_entry e r) refl refl;
  }

  pub opens_sleep : (s : SleepRow) (r : Records) → IsSpared limit (statement open_sleep_text (sleep_cells s)) r (with_sleep s r)
  opens_sleep s r = record {
    never = λ db h. never_insert open_sleep_text (sleep_cells s) 3 sleeps.terms 4 (sleeps.opens s) 4 (codes "sleep") sleep_columns sleep_keys refl (accepts_sleep limit s) (sleeps.casts s) db h.schema
        (keeps_unique (with_tree db.trees 4 (put_row (Int (next_rowid (db.trees 4)) ∷ sleep_cells s) (db.trees 4))) (ids_apart db r h) (keys_apart db r h));
    comes = λ db new h tally comes.
        let change = changed_by open_sleep_text (sleep_cells s) 3 sleeps.terms 4 (sleeps.opens s) 4 (codes "sleep") sleep_columns sleep_keys refl (accepts_sleep limit s) (sleeps.casts s) db h.schema tally new comes in
        elsewhere db r h 4 (λ same. omega (arith, same)) (λ same. omega (arith, same)) new change.schema change.others (with_sleep s r) refl refl;
  }

  pub adds_state : (s : StateRow) (r : Records) → filter (is_at_key s.object s.key) r.states ≡ [] → IsSpared limit (statement add_state_text (state_cells s)) r (with_state s r)
  adds_state s r none = record {
    never = λ db h.
        let row : Row = Int (next_rowid (db.trees 5)) ∷ state_cells s in
        never_insert add_state_text (state_cells s) 4 states.terms 4 (states.adds s) 5 (codes "state") state_columns state_keys refl (accepts_state limit s) (states.casts s) db h.schema
        (keeps_unique (with_tree db.trees 5 (put_row row (db.trees 5))) (ids_apart db r h) (apart_put (1 ∷ 2 ∷ []) (db.trees 5) row refl (new_key db r h s none row refl) (keys_apart db r h)));
    comes = λ db new h tally comes.
        let change = changed_by add_state_text (state_cells s) 4 states.terms 4 (states.adds s) 5 (codes "state") state_columns state_keys refl (accepts_state limit s) (states.casts s) db h.schema tally new comes in
        with_states db r h new change.schema change.others (r.states ++ s ∷ []) (subst (HasRows (new.trees 5)) (sym (map-append state_cells r.states (s ∷ []))) (change.rows _ h.states)) (apart_with r s h.apart none);
  }

  pub adds_invocation : (i : InvocationRow) (r : Records) → filter (has_id i.id) r.invocations ≡ [] → IsSpared limit (statement add_invocation_text (invocation_cells i)) r (with_invocation i r)
  adds_invocation i r none = record {
    never = λ db h.
        let row : Row = Int (next_rowid (db.trees 1)) ∷ invocation_cells i in
        never_insert add_invocation_text (invocation_cells i) 1 invocations.terms 23 (invocations.adds i) 1 (codes "invocation") invocation_columns invocation_keys refl (accepts_invocation limit i) (invocations.casts i) db h.schema
        (keeps_unique (with_tree db.trees 1 (put_row row (db.trees 1))) (apart_put (1 ∷ []) (db.trees 1) row refl (new_id db r h i none row refl) (ids_apart db r h)) (keys_apart db r h));
    comes = λ db new h tally comes.
        let change = changed_by add_invocation_text (invocation_cells i) 1 invocations.terms 23 (invocations.adds i) 1 (codes "invocation") invocation_columns invocation_keys refl (accepts_invocation limit i) (invocations.casts i) db h.schema tally new comes in
        with_invocations db r h new change.schema change.others (r.invocations ++ i ∷ []) (subst (HasRows (new.trees 1)) (sym (map-append invocation_cells r.invocations (i ∷ []))) (change.rows _ h.invocations)) (apart_begun r i h.apart none);
  }

  -- ---- DELETE

  module _ (sql : List ℕ) (params : Row) (tree at : ℕ) (tests : List Test) (it : IsDelete sql tree at tests) (name : List ℕ) (columns : List Column) (keys : List (List ℕ))
      (found : slice_get store_schema.tables at ≡ Some (table_of tree name columns keys)) (db : Database) (has : db.schema ≡ store_schema) where
    abbrev those : Program
    those = program_of (rows_of tree (tests_of tests) (col 1 0 ∷ []) [])

    never_delete : accepts_program store_schema (lets_of those) those.body params ≡ true → ((ids : List Row) → Keeps Unique store_schema (with_tree db.trees tree (without_all (db.trees tree) (ids_of ids))))
        → IsRefusedFor limit (statement sql params) db key_taken → ⊥
    never_delete accepts keeps refused =
        let stop = refused_as limit (statement sql params) db key_taken refused in
        let does = comes_as store_schema none_refers limit (statement sql params) db has it.plain (Delete at those) it.command (Err stop.0) stop.1 in
        elim (delete_refused store_schema none_refers limit Enforced tree name columns keys (plain_orders keys) params enforced refl does.0 at found db.trees stop.0 those accepts
        (no_sums limit sql params tree at tests it name columns keys found db.trees) does.1) [
          | inl met ↦ never_for_key limit db.trees (edit_of db.trees (table_of tree name columns keys) [] Given 0 []) stop.0 stop.2 (inl met) (keeps [])
          | inr (ids, asked, stops) ↦ never_for_key limit db.trees (edit_of db.trees (table_of tree name columns keys) (ids_of ids) Given 0 []) stop.0 stop.2 (inr stops) (keeps ids)
        ]

    cut_by : (tally : Tally) (new : Database) → StatementComesTo limit (statement sql params) db (Ok (tally, new)) → ChangesTable store_schema tree (filter (λ (cells : Row). not (match_cells params tests cells))) db new
    cut_by tally new comes =
        delete_comes store_schema none_refers limit (statement sql params) db has it.plain tree name columns keys (plain_orders keys) at found tally new comes
        (tests_of tests) (λ (cells : Row). not (match_cells params tests cells)) it.command (λ r. ap not (cells_match params tests r))

  -- states that are removed
  module _ (sql : List ℕ) (params : Row) (tests : List Test) (it : IsDelete sql 5 4 tests) (accepts : accepts_program store_schema [] (program_of (rows_of 5 (tests_of tests) (col 1 0 ∷ []) [])).body params ≡ true) (test : StateRow → Bool)
      (is : (s : StateRow) → match_cells params tests (state_cells s) ≡ test s) where
    drops : (r : Records) → IsSpared limit (statement sql params) r (record r { states = filter (λ s. not (test s)) r.states })
    drops r = record {
      never = λ db h. never_delete sql params 5 4 tests it (codes "state") state_columns state_keys refl db h.schema accepts
          (λ ids. keeps_unique (with_tree db.trees 5 (without_all (db.trees 5) (ids_of ids))) (ids_apart db r h) (apart_fewer (1 ∷ 2 ∷ []) (db.trees 5) (without_all (db.trees 5) (ids_of ids)) (without_all_has (ids_of ids) (db.trees 5)) (keys_apart db r h)));
      comes = λ db new h tally comes.
          let change = cut_by sql params 5 4 tests it (codes "state") state_columns state_keys refl db h.schema tally new comes in
          with_states db r h new change.schema change.others (filter (λ s. not (test s)) r.states)
          (subst (HasRows (new.trees 5)) (filter-map (λ (cells : Row). not (match_cells params tests cells)) state_cells r.states ∙ ap (map state_cells) (filter_same _ _ (λ s. ap not (is s)) r.states)) (change.rows _ h.states))
          (apart_among r (λ s. not (test s)) h.apart);
    }

  pub drops_state : (object key : List ℕ) (r : Records) → IsSpared limit (statement drop_state_text (Text object ∷ Blob key ∷ [])) r (without_state object key r)
  drops_state object key = drops drop_state_text (Text object ∷ Blob key ∷ []) (equal 0 0 ∷ equal 1 1 ∷ []) states.drops_key refl (is_at_key object key) (λ s. two_tests _ _ _ _ (same_text s.object object) (same_blob s.key key))

  pub drops_states : (object : List ℕ) (r : Records) → IsSpared limit (statement drop_states_text (Text object ∷ [])) r (without_states object r)
  drops_states object = drops drop_states_text (Text object ∷ []) (equal 0 0 ∷ []) states.drops_object refl (is_of_object object) (λ s. one_test _ _ (same_text s.object object))

  -- sleeps that are closed
  module _ (sql : List ℕ) (params : Row) (tests : List Test) (it : IsDelete sql 4 3 tests) (accepts : accepts_program store_schema [] (program_of (rows_of 4 (tests_of tests) (col 1 0 ∷ []) [])).body params ≡ true) where
    closes : (r : Records) (left : List SleepRow) → IsSpared limit (statement sql params) r (record r { sleeps = left })
    closes r left = record {
      never = λ db h. never_delete sql params 4 3 tests it (codes "sleep") sleep_columns sleep_keys refl db h.schema accepts
          (λ ids. keeps_unique (with_tree db.trees 4 (without_all (db.trees 4) (ids_of ids))) (ids_apart db r h) (keys_apart db r h));
      comes = λ db new h tally comes.
          let change = cut_by sql params 4 3 tests it (codes "sleep") sleep_columns sleep_keys refl db h.schema tally new comes in
          elsewhere db r h 4 (λ same. omega (arith, same)) (λ same. omega (arith, same)) new change.schema change.others (record r { sleeps = left }) refl refl;
    }

  pub closes_sleeps : (invocation : List ℕ) (r : Records) → IsSpared limit (statement close_sleeps_text (Text invocation ∷ [])) r (without_sleeps invocation r)
  closes_sleeps invocation r = closes close_sleeps_text (Text invocation ∷ []) (equal 1 0 ∷ []) sleeps.closes_own refl r (without_sleeps invocation r).sleeps

  pub closes_sleeps_until : (moment : ℕ) (r : Records) → IsSpared limit (statement close_sleeps_until_text (long_cell moment ∷ [])) r (without_sleeps_until moment r)
  closes_sleeps_until moment r = closes close_sleeps_until_text (long_cell moment ∷ []) (until 0 0 ∷ []) sleeps.closes_until refl r (without_sleeps_until moment r).sleeps

  pub drops_entries : (invocation : List ℕ) (r : Records) → IsSpared limit (statement drop_entries_text (Text invocation ∷ [])) r (without_entries invocation r)
  drops_entries invocation r = record {
    never = λ db h. never_delete drop_entries_text (Text invocation ∷ []) 0 0 (equal 0 0 ∷ []) entries.drops_own (codes "entry") entry_columns entry_keys refl db h.schema refl
        (λ ids. keeps_unique (with_tree db.trees 0 (without_all (db.trees 0) (ids_of ids))) (ids_apart db r h) (keys_apart db r h));
    comes = λ db new h tally comes.
        let change = cut_by drop_entries_text (Text invocation ∷ []) 0 0 (equal 0 0 ∷ []) entries.drops_own (codes "entry") entry_columns entry_keys refl db h.schema tally new comes in
        elsewhere db r h 0 (λ same. omega (arith, same)) (λ same. omega (arith, same)) new change.schema change.others (without_entries invocation r) refl refl;
  }

  pub drops_invocation : (id : List ℕ) (r : Records) → IsSpared limit (statement drop_invocation_text (Text id ∷ [])) r (without_invocation id r)
  drops_invocation id r = record {
    never = λ db h. never_delete drop_invocation_text (Text id ∷ []) 1 1 (equal 0 0 ∷ []) invocations.drops_own (codes "invocation") invocation_columns invocation_keys refl db h.schema refl
        (λ ids. keeps_unique (with_tree db.trees 1 (without_all (db.trees 1) (ids_of ids))) (apart_fewer (1 ∷ []) (db.trees 1) (without_all (db.trees 1) (ids_of ids)) (without_all_has (ids_of ids) (db.trees 1)) (ids_apart db r h)) (keys_apart db r h));
    comes = λ db new h tally comes.
        let keeps = λ (cells : Row). not (match_cells (Text id ∷ []) (equal 0 0 ∷ []) cells) in
        let stays = λ (i : InvocationRow). not (is_named id i) in
        let change = cut_by drop_invocation_text (Text id ∷ []) 1 1 (equal 0 0 ∷ []) invocations.drops_own (codes "invocation") invocation_columns invocation_keys refl db h.schema tally new comes in
        with_invocations db r h new change.schema change.others (filter stays r.invocations)
        (subst (HasRows (new.trees 1)) (filter-map keeps invocation_cells r.invocations ∙ ap (map invocation_cells) (filter_same _ _ (λ i. ap not (one_test _ _ (same_text i.id id))) r.invocations)) (change.rows _ h.invocations))
        (apart_left r stays h.apart);
  }

  -- ---- UPDATE

  abbrev setting : Program
  setting = changed 1 (tests_of (equal 0 0 ∷ [])) invocations.sets

  abbrev given_to : List ℕ → Progress → Row
  given_to id p = Text id ∷ progress_cells p

  -- each row that is there then has the rowid and the id of one that was there
  twins : (id : List ℕ) (p : Progress) (db : Database) (r : Records) → Stands db r → (rows : List Row) → Answers (record { schema = store_schema; trees = db.trees }) setting (given_to id p) rows
      → (x : Row) → Has (edited db.trees (edit_of db.trees (table_of 1 (codes "invocation") invocation_columns invocation_keys) (ids_of rows) Given 1 rows)) x → IsTwin (1 ∷ []) (db.trees 1) x
  twins id p db r h rows asked x k =
      let table = table_of 1 (codes "invocation") invocation_columns invocation_keys in
      let left = without_all (db.trees 1) (ids_of rows) in
      let news = map (λ s. cast_row table (drop 1 s)) rows in
      let made = λ (row : Row). cast_row table (drop 1 (eval_all (col 1 0 ∷ col 1 0 ∷ invocations.sets) (given_to id p ∷ row ∷ []))) in
      let were = filter (passes (given_to id p) (tests_of (equal 0 0 ∷ []))) (db.trees 1) in
      let wrote = rewrites store_schema (given_to id p) Enforced db db 1 (codes "invocation") invocation_columns invocation_keys (plain_orders invocation_keys) (tests_of (equal 0 0 ∷ [])) invocations.sets rows asked in
      elim (put_all_has news left x (subst (λ l. Has (put_all left l) x) (given left news) k)) [
        | inl fresh ↦
            let from = from_mapped made were x (all_has (Has (map made were)) news x (all-permutation (Has (map made were)) (map made were) news wrote (all_from (Has (map made were)) (map made were) (λ e j. j))) fresh) in
            let there = (has_filtered (passes (given_to id p) (tests_of (equal 0 0 ∷ []))) (db.trees 1) from.0 from.1).0 in
            let int = all_has (λ (row : Row). is_int (rowid row) ≡ true) (db.trees 1) from.0 h.invocations.numbered.ints there in
            let it = stands_for invocation_cells (db.trees 1) r.invocations h.invocations from.0 there in
            let is : x ≡ rowid from.0 ∷ invocation_cells (record it.0 { progress = p }) =
            from.2 ∙ cells store_schema (given_to id p) Enforced db db 1 (codes "invocation") invocation_columns invocation_keys (plain_orders invocation_keys) invocations.sets from.0 int
            ∙ ap (λ (l : Row). rowid from.0 ∷ l) (written limit id p from.0 (it.0, it.2)) in
            (from.0, there, ap rowid is, (column_there from.0 0 ∙ ap (λ (c : Row). column c 0) it.2 ∙ sym (ap (λ (row : Row). column row 1) is), tt))
        | inr kept ↦ (x, without_all_has (ids_of rows) (db.trees 1) x kept, refl, agrees_itself (1 ∷ []) x)
      ]

  pub sets_progress : (id : List ℕ) (p : Progress) (r : Records) → IsSpared limit (statement set_progress_text (Text id ∷ progress_cells p)) r (with_progress id p r)
  sets_progress id p r = record {
    never = λ db h refused.
        let table = table_of 1 (codes "invocation") invocation_columns invocation_keys in
        let one = statement set_progress_text (given_to id p) in
        let stop = refused_as limit one db key_taken refused in
        let does = comes_as store_schema none_refers limit one db h.schema invocations.set_plain (Update 1 setting) invocations.set_is (Err stop.0) stop.1 in
        elim (update_refused store_schema none_refers limit Enforced 1 (codes "invocation") invocation_columns invocation_keys (plain_orders invocation_keys) (given_to id p) enforced refl does.0 1 refl db.trees stop.0 setting (accepts_progress limit id p)
        (no_sums_set limit id p db.trees) does.1) [
          | inl met ↦ never_for_key limit db.trees (edit_of db.trees table [] Given 0 []) stop.0 stop.2 (inl met) (keeps_unique (with_tree db.trees 1 (db.trees 1)) (ids_apart db r h) (keys_apart db r h))
          | inr (rows, asked, stops) ↦
              let edit = edit_of db.trees table (ids_of rows) Given 1 rows in
              never_for_key limit db.trees edit stop.0 stop.2 (inr stops)
              (keeps_unique (with_tree db.trees 1 (edited db.trees edit)) (apart_twins (1 ∷ []) (db.trees 1) (edited db.trees edit) (twins id p db r h rows asked) (ids_apart db r h)) (keys_apart db r h))
        ];
    comes = λ db new h tally comes.
        let one = statement set_progress_text (given_to id p) in
        let change = update_comes store_schema none_refers limit one db h.schema invocations.set_plain 1 (codes "invocation") invocation_columns invocation_keys (plain_orders invocation_keys) 1 refl tally new comes
        (tests_of (equal 0 0 ∷ [])) invocations.sets (invocations.has_id id p) (invocations.changed id p) invocations.IsInvocation invocations.set_is (invocations.has_id_there id p)
        (λ row v. written limit id p row v ∙ sym (ap (invocations.changed id p) v.1 ∙ invocations.changed_is id p v.0)) in
        with_invocations db r h new change.0 change.2 (map (set_in id p) r.invocations)
        (subst (HasRows (new.trees 1)) (map-map _ invocation_cells r.invocations ∙ map_same _ _ (invocations.set_cells id p) r.invocations ∙ sym (map-map invocation_cells (set_in id p) r.invocations))
        (change.1 _ (invocations.are_invocations r.invocations) h.invocations))
        (apart_set r id p h.apart);
  }
