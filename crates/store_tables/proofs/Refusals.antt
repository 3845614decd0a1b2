-- Each statement of a write is refused only where a row finds no place, and leaves the tables of a store behind it.
use Rattle.std.proofs.Common.{◌≡◌, ◌++◌, ℕ, inl, inr, true, not, List, [], ◌∷◌, drop, filter, map, slice_get, Option, Some, Ok, codes, refl, sym, ap, subst, ◌∙◌, arith}
use Rattle.std.proofs.lemmas.List.{map-append}
use Rattle.sqlite.specs.declared.types.Value.TheVariants.{Blob, Text}
use Rattle.sqlite_value.specs.Order.{Row}
use Rattle.sqlite_trees.specs.Tree.{Trees}
use Rattle.sqlite_typing.specs.Types.{accepts_program, accepts_terms}
use Rattle.sqlite_sql.specs.Program.{ProgramOverflows}
use Rattle.sqlite_schema.specs.Program.{lets_of}
use Rattle.sqlite_schema.specs.declared.program.Program.{Program}
use Rattle.sqlite_schema.specs.declared.schema.Column.{Column}
use Rattle.sqlite_keyed.proofs.ListLemmas.{filter-map, filter_same, map-map, map_same}
use Rattle.sqlite.specs.Cast.{cast_all}
use Rattle.sqlite.specs.Does.{Tally}
use Rattle.sqlite.specs.Effect.{Database}
use Rattle.sqlite.specs.Term.{Term, col, eval_all}
use Rattle.sqlite.specs.declared.error.Error.{Error}
use Rattle.sql_tables.specs.Causes.{StatementComesTo, IsRefusedFor, Statement}
use Rattle.sql_tables.specs.Cells.{long_cell}
use Rattle.sql_tables.specs.Changes.{ChangesTable, KeepsOthers}
use Rattle.sql_tables.specs.Columns.{plain_orders, table_of}
use Rattle.sql_tables.specs.Content.{HasRows}
use Rattle.sql_tables.specs.Refusals.{IsPlaceCause}
use Rattle.sql_tables.specs.Statements.{program_of, rows_of}
use Rattle.sql_tables.proofs.Comes.{delete_comes, insert_comes, update_comes}
use Rattle.sql_tables.proofs.Places.{AreTyped, changed, delete_place, insert_place, update_place}
use Rattle.store_tables.specs.Tables.{entry_columns, entry_keys, invocation_columns, invocation_keys, sleep_columns, sleep_keys, state_columns, state_keys, store_schema}
use Rattle.store_tables.specs.Statements.{add_entry_text, add_invocation_text, add_state_text, close_sleeps_text, close_sleeps_until_text, drop_entries_text, drop_invocation_text, drop_state_text, drop_states_text, open_sleep_text, set_progress_text, statement}
use Rattle.store_tables.specs.Records.{EntryRow, InvocationRow, Progress, SleepRow, StateRow, delay_of, entry_cells, invocation_cells, is_named, progress_cells, set_in, sleep_cells, state_cells}
use Rattle.store_tables.proofs.Cells.{class_behaviors, class_blobs, class_closings, class_codes, class_longs, class_messages, class_shorts, class_texts, typed_entry, typed_invocation, typed_sleep, typed_state}
use Rattle.store_tables.proofs.Matching.{Test, cells_match, equal, match_cells, one_test, tests_of, until}
use Rattle.sql_tables.proofs.Cells.{same_text}
use Rattle.store_tables.proofs.Moves.{IsDelete, IsInsert, none_refers}
use Rattle.store_tables.proofs.Entries as entries
use Rattle.store_tables.proofs.Invocations as invocations
use Rattle.store_tables.proofs.Sleeps as sleeps
use Rattle.store_tables.proofs.States as states

-- the tables are those of a store, and one has the rows of invocations
pub record HasInvocations (db : Database) : Type 0 where
  pub schema : db.schema ≡ store_schema
  pub invocations : List InvocationRow
  pub rows : HasRows (db.trees 1) (map invocation_cells invocations)

-- it is refused for nothing of its own but a row that finds no place, and leaves such tables behind it
pub record IsTame (limit : Option ℕ) (one : Statement) : Type 0 where
  pub refused : (db : Database) → HasInvocations db → (cause : Error) → IsRefusedFor limit one db cause → IsPlaceCause limit cause
  pub comes : (db after : Database) → HasInvocations db → (tally : Tally) → StatementComesTo limit one db (Ok (tally, after)) → HasInvocations after

-- a change of another table
elsewhere : (tree : ℕ) → (1 ≡ tree → ⊥) → (db after : Database) → HasInvocations db → after.schema ≡ store_schema → KeepsOthers store_schema tree db after → HasInvocations after
elsewhere tree away db after h has others = record { schema = has; invocations = h.invocations; rows = subst (λ t. HasRows t (map invocation_cells h.invocations)) (sym (others.1.0 away)) h.rows }

module _ (limit : Option ℕ) where
  -- ---- INSERT

  module _ (sql : List ℕ) (cells : Row) (at : ℕ) (terms : List Term) (width : ℕ) (it : IsInsert sql cells cells at terms width) (tree : ℕ) (name : List ℕ) (columns : List Column) (keys : List (List ℕ))
      (found : slice_get store_schema.tables at ≡ Some (table_of tree name columns keys)) (accepts : accepts_terms terms cells ≡ true) (casts : cast_all columns cells ≡ cells) where
    refused_insert : AreTyped columns cells → (db : Database) → HasInvocations db → (cause : Error) → IsRefusedFor limit (statement sql cells) db cause → IsPlaceCause limit cause
    refused_insert fits db h cause refused =
        insert_place store_schema none_refers limit (statement sql cells) db h.schema it.plain tree name columns keys (plain_orders keys) at found cause refused terms width cells it.command accepts it.values casts fits

    changed_by_insert : (db after : Database) → HasInvocations db → (tally : Tally) → StatementComesTo limit (statement sql cells) db (Ok (tally, after)) → ChangesTable store_schema tree (λ rows. rows ++ cells ∷ []) db after
    changed_by_insert db after h tally comes =
        insert_comes store_schema none_refers limit (statement sql cells) db h.schema it.plain tree name columns keys (plain_orders keys) at found tally after comes terms width cells it.command it.values casts

    -- into another table than that of the invocations
    tame_insert : AreTyped columns cells → (1 ≡ tree → ⊥) → IsTame limit (statement sql cells)
    tame_insert fits away = record {
      refused = refused_insert fits;
      comes = λ db after h tally comes. let change = changed_by_insert db after h tally comes in elsewhere tree away db after h change.schema change.others;
    }

  pub accepts_entry : (e : EntryRow) → accepts_terms entries.terms (entry_cells e) ≡ true
  unfolding entries.terms
  accepts_entry e = rw (class_shorts e.completion, class_shorts e.second_completion, class_shorts e.answered, class_shorts e.arrival) refl

  pub adds_entry : (e : EntryRow) → IsTame limit (statement add_entry_text (entry_cells e))
  adds_entry e = tame_insert add_entry_text (entry_cells e) 0 entries.terms 10 (entries.adds e) 0 (codes "entry") entry_columns entry_keys refl (accepts_entry e) (entries.casts e) (typed_entry e) (λ same. omega (arith, same))

  pub accepts_state : (s : StateRow) → accepts_terms states.terms (state_cells s) ≡ true
  unfolding states.terms
  accepts_state s = refl

  pub adds_state : (s : StateRow) → IsTame limit (statement add_state_text (state_cells s))
  adds_state s = tame_insert add_state_text (state_cells s) 4 states.terms 4 (states.adds s) 5 (codes "state") state_columns state_keys refl (accepts_state s) (states.casts s) (typed_state s) (λ same. omega (arith, same))

  pub accepts_sleep : (s : SleepRow) → accepts_terms sleeps.terms (sleep_cells s) ≡ true
  unfolding sleeps.terms
  accepts_sleep s = refl

  pub opens_sleep : (s : SleepRow) → IsTame limit (statement open_sleep_text (sleep_cells s))
  opens_sleep s = tame_insert open_sleep_text (sleep_cells s) 3 sleeps.terms 4 (sleeps.opens s) 4 (codes "sleep") sleep_columns sleep_keys refl (accepts_sleep s) (sleeps.casts s) (typed_sleep s) (λ same. omega (arith, same))

  pub accepts_invocation : (i : InvocationRow) → accepts_terms invocations.terms (invocation_cells i) ≡ true
  unfolding invocations.terms
  accepts_invocation i =
      let p = i.progress in
      rw (
        class_texts p.open_object,
        class_blobs p.suspension,
        class_shorts p.handed,
        class_closings p.closing,
        class_blobs p.answer,
        class_codes p.last_error,
        class_behaviors p.last_error,
        class_longs (delay_of p.last_error),
        class_messages p.last_error,
        class_shorts p.heard,
      ) refl

  pub adds_invocation : (i : InvocationRow) → IsTame limit (statement add_invocation_text (invocation_cells i))
  adds_invocation i = record {
    refused = refused_insert add_invocation_text (invocation_cells i) 1 invocations.terms 23 (invocations.adds i) 1 (codes "invocation") invocation_columns invocation_keys refl (accepts_invocation i) (invocations.casts i) (typed_invocation i);
    comes = λ db after h tally comes.
        let change = changed_by_insert add_invocation_text (invocation_cells i) 1 invocations.terms 23 (invocations.adds i) 1 (codes "invocation") invocation_columns invocation_keys refl (accepts_invocation i) (invocations.casts i) db after h tally comes in
        record {
          schema = change.schema;
          invocations = h.invocations ++ i ∷ [];
          rows = subst (HasRows (after.trees 1)) (sym (map-append invocation_cells h.invocations (i ∷ []))) (change.rows _ h.rows);
        };
  }

  -- ---- DELETE

  module _ (sql : List ℕ) (params : Row) (tree at : ℕ) (tests : List Test) (it : IsDelete sql tree at tests) (name : List ℕ) (columns : List Column) (keys : List (List ℕ))
      (found : slice_get store_schema.tables at ≡ Some (table_of tree name columns keys)) where
    abbrev those : Program
    those = program_of (rows_of tree (tests_of tests) (col 1 0 ∷ []) [])

    pub no_sums : (db : Trees) → ProgramOverflows db params [] (lets_of those) those.body → ⊥
    no_sums db (inl group) = group
    no_sums db (inr (at, row, within, is, sum)) = sum

    tame_delete : accepts_program store_schema (lets_of those) those.body params ≡ true → (1 ≡ tree → ⊥) → IsTame limit (statement sql params)
    tame_delete accepts away = record {
      refused = λ db h cause refused.
          delete_place store_schema none_refers limit (statement sql params) db h.schema it.plain tree name columns keys (plain_orders keys) at found cause refused those it.command accepts (no_sums db.trees);
      comes = λ db after h tally comes.
          let change = delete_comes store_schema none_refers limit (statement sql params) db h.schema it.plain tree name columns keys (plain_orders keys) at found tally after comes
          (tests_of tests) (λ (row : Row). not (match_cells params tests row)) it.command (λ r. ap not (cells_match params tests r)) in
          elsewhere tree away db after h change.schema change.others;
    }

  pub drops_state : (object key : List ℕ) → IsTame limit (statement drop_state_text (Text object ∷ Blob key ∷ []))
  drops_state object key = tame_delete drop_state_text (Text object ∷ Blob key ∷ []) 5 4 (equal 0 0 ∷ equal 1 1 ∷ []) states.drops_key (codes "state") state_columns state_keys refl refl (λ same. omega (arith, same))

  pub drops_states : (object : List ℕ) → IsTame limit (statement drop_states_text (Text object ∷ []))
  drops_states object = tame_delete drop_states_text (Text object ∷ []) 5 4 (equal 0 0 ∷ []) states.drops_object (codes "state") state_columns state_keys refl refl (λ same. omega (arith, same))

  pub closes_sleeps : (invocation : List ℕ) → IsTame limit (statement close_sleeps_text (Text invocation ∷ []))
  closes_sleeps invocation = tame_delete close_sleeps_text (Text invocation ∷ []) 4 3 (equal 1 0 ∷ []) sleeps.closes_own (codes "sleep") sleep_columns sleep_keys refl refl (λ same. omega (arith, same))

  pub closes_sleeps_until : (moment : ℕ) → IsTame limit (statement close_sleeps_until_text (long_cell moment ∷ []))
  closes_sleeps_until moment = tame_delete close_sleeps_until_text (long_cell moment ∷ []) 4 3 (until 0 0 ∷ []) sleeps.closes_until (codes "sleep") sleep_columns sleep_keys refl refl (λ same. omega (arith, same))

  pub drops_entries : (invocation : List ℕ) → IsTame limit (statement drop_entries_text (Text invocation ∷ []))
  drops_entries invocation = tame_delete drop_entries_text (Text invocation ∷ []) 0 0 (equal 0 0 ∷ []) entries.drops_own (codes "entry") entry_columns entry_keys refl refl (λ same. omega (arith, same))

  -- from the table of the invocations itself
  pub drops_invocation : (id : List ℕ) → IsTame limit (statement drop_invocation_text (Text id ∷ []))
  drops_invocation id = record {
    refused = λ db h cause refused.
        delete_place store_schema none_refers limit (statement drop_invocation_text (Text id ∷ [])) db h.schema invocations.drops_own.plain 1 (codes "invocation") invocation_columns invocation_keys (plain_orders invocation_keys) 1 refl cause refused
        (program_of (rows_of 1 (tests_of (equal 0 0 ∷ [])) (col 1 0 ∷ []) [])) invocations.drops_own.command refl
        (no_sums drop_invocation_text (Text id ∷ []) 1 1 (equal 0 0 ∷ []) invocations.drops_own (codes "invocation") invocation_columns invocation_keys refl db.trees);
    comes = λ db after h tally comes.
        let keeps = λ (row : Row). not (match_cells (Text id ∷ []) (equal 0 0 ∷ []) row) in
        let change = delete_comes store_schema none_refers limit (statement drop_invocation_text (Text id ∷ [])) db h.schema invocations.drops_own.plain 1 (codes "invocation") invocation_columns invocation_keys (plain_orders invocation_keys) 1 refl tally after comes
        (tests_of (equal 0 0 ∷ [])) keeps invocations.drops_own.command (λ r. ap not (cells_match (Text id ∷ []) (equal 0 0 ∷ []) r)) in
        record {
          schema = change.schema;
          invocations = filter (λ i. not (is_named id i)) h.invocations;
          rows = subst (HasRows (after.trees 1)) (filter-map keeps invocation_cells h.invocations ∙ ap (map invocation_cells) (filter_same _ _ (λ i. ap not (one_test _ _ (same_text i.id id))) h.invocations)) (change.rows _ h.rows);
        };
  }

  -- ---- UPDATE

  abbrev setting : Program
  setting = changed 1 (tests_of (equal 0 0 ∷ [])) invocations.sets

  pub accepts_progress : (id : List ℕ) (p : Progress) → accepts_program store_schema (lets_of setting) setting.body (Text id ∷ progress_cells p) ≡ true
  unfolding invocations.sets
  accepts_progress id p =
      rw (
        class_texts p.open_object,
        class_blobs p.suspension,
        class_shorts p.handed,
        class_closings p.closing,
        class_blobs p.answer,
        class_codes p.last_error,
        class_behaviors p.last_error,
        class_longs (delay_of p.last_error),
        class_messages p.last_error,
        class_shorts p.heard,
      ) refl

  pub no_sums_set : (id : List ℕ) (p : Progress) (db : Trees) → ProgramOverflows db (Text id ∷ progress_cells p) [] (lets_of setting) setting.body → ⊥
  no_sums_set id p db (inl group) = group
  no_sums_set id p db (inr (at, row, within, is, sum)) = sum

  -- what is written is the row of an invocation
  pub written : (id : List ℕ) (p : Progress) (r : Row) (v : invocations.IsInvocation (drop 1 r)) → cast_all invocation_columns (eval_all invocations.sets ((Text id ∷ progress_cells p) ∷ r ∷ [])) ≡ invocation_cells (record v.0 { progress = p })
  written id p r v =
      ap (cast_all invocation_columns) (invocations.changed_there id p r ∙ ap (invocations.changed id p) v.1 ∙ invocations.changed_is id p v.0) ∙ invocations.casts (record v.0 { progress = p })

  pub sets_progress : (id : List ℕ) (p : Progress) → IsTame limit (statement set_progress_text (Text id ∷ progress_cells p))
  sets_progress id p = record {
    refused = λ db h cause refused.
        update_place store_schema none_refers limit (statement set_progress_text (Text id ∷ progress_cells p)) db h.schema invocations.set_plain 1 (codes "invocation") invocation_columns invocation_keys (plain_orders invocation_keys) 1 refl cause refused
        (tests_of (equal 0 0 ∷ [])) invocations.sets invocations.IsInvocation invocations.set_is (accepts_progress id p) (no_sums_set id p db.trees)
        (λ r v. subst (AreTyped invocation_columns) (sym (written id p r v)) (typed_invocation (record v.0 { progress = p })))
        (map invocation_cells h.invocations) (invocations.are_invocations h.invocations) h.rows;
    comes = λ db after h tally comes.
        let change = update_comes store_schema none_refers limit (statement set_progress_text (Text id ∷ progress_cells p)) db h.schema invocations.set_plain 1 (codes "invocation") invocation_columns invocation_keys (plain_orders invocation_keys) 1 refl tally after comes
        (tests_of (equal 0 0 ∷ [])) invocations.sets (invocations.has_id id p) (invocations.changed id p) invocations.IsInvocation invocations.set_is (invocations.has_id_there id p)
        (λ r v. written id p r v ∙ sym (ap (invocations.changed id p) v.1 ∙ invocations.changed_is id p v.0)) in
        record {
          schema = change.0;
          invocations = map (set_in id p) h.invocations;
          rows = subst (HasRows (after.trees 1)) (map-map _ invocation_cells h.invocations ∙ map_same _ _ (invocations.set_cells id p) h.invocations ∙ sym (map-map invocation_cells (set_in id p) h.invocations))
              (change.1 _ (invocations.are_invocations h.invocations) h.rows);
        };
  }
