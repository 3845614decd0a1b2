-- The questions are refused for nothing of their own.
use Rattle.std.proofs.Common.{◌≡◌, ℕ, true, List, [], ◌∷◌, length, map, take, inl, inr, refl, arith}
use Rattle.sqlite.specs.declared.types.Value.TheVariants.{Blob, Text}
use Rattle.sqlite_value.specs.Order.{Row}
use Rattle.sqlite_value.specs.declared.keys.Key.{Key}
use Rattle.sqlite_trees.specs.Tree.{Trees}
use Rattle.sqlite_typing.specs.Types.{accepts_program}
use Rattle.sqlite_sql.specs.Program.{ProgramOverflows}
use Rattle.sqlite_schema.specs.Program.{lets_of}
use Rattle.sqlite_schema.specs.declared.program.Program.{Program}
use Rattle.sqlite_schema.specs.declared.schema.Column.{Column}
use Rattle.sqlite.specs.Term.{Term}
use Rattle.sqlite.specs.Listing.{understood}
use Rattle.sqlite_tied.specs.Compute.{everything}
use Rattle.sql_tables.specs.Causes.{IsReadable}
use Rattle.sql_tables.specs.Cells.{flag_cell, long_cell, short_cell}
use Rattle.sql_tables.specs.Statements.{by_columns, first_row_query, program_of, rows_of}
use Rattle.sql_tables.proofs.Readable.{IsWhole, readable_by}
use Rattle.store_tables.specs.Tables.{store_schema, entry_columns, invocation_columns, meta_columns, sleep_columns, state_columns}
use Rattle.store_tables.specs.Statements.{arrival_at_text, arrivals_after_text, awake_ids_text, entries_text, entry_at_text, entry_by_answered_text, entry_by_completion_text, entry_by_second_completion_text, first_invocation_text, first_sleep_text, invocation_after_text, invocation_by_id_text, marks_text, open_invocation_text, sleeps_until_text, state_at_text, states_text}
use Rattle.store_tables.proofs.Asking.{IsFirstSelect, IsSelect, selects_after, selects_answered, selects_arrival, selects_awake, selects_completion, selects_entries, selects_first_invocation, selects_first_sleep, selects_id, selects_invocation_after, selects_marks, selects_open, selects_place, selects_second, selects_sleeps, selects_state, selects_states}
use Rattle.store_tables.proofs.Matching.{Test, behind, columns_from, equal, from, tests_of, until}

module _ (tree : ℕ) (columns : List Column) (width : ℕ) (places : List Test) (order : List (Term × Key)) (sql : List ℕ) (params : Row) where
  abbrev p : Program
  p = program_of (rows_of tree (tests_of places) (columns_from 1 width) order)

  no_sums : (db : Trees) → ProgramOverflows db params [] (lets_of p) p.body → ⊥
  no_sums db (inl group) = group
  no_sums db (inr (at, row, within, is, sum)) = sum

  select_readable : IsSelect sql tree columns width places order → IsWhole (understood store_schema sql) (length sql) (length params) → accepts_program store_schema (lets_of p) p.body params ≡ true → IsReadable store_schema sql params
  select_readable select whole accepts =
      readable_by store_schema sql params p (map (λ (c : Column). c.name) columns) accepts no_sums (understood store_schema sql) refl select.command select.plain whole select.unlisted

whole_id : IsWhole (understood store_schema invocation_by_id_text) (length invocation_by_id_text) 1
unfolding understood everything
whole_id = (omega arith, refl)

pub reads_id : (id : List ℕ) → IsReadable store_schema invocation_by_id_text (Text id ∷ [])
reads_id id = select_readable 1 invocation_columns 22 (equal 0 0 ∷ []) [] invocation_by_id_text (Text id ∷ []) selects_id whole_id refl

whole_open : IsWhole (understood store_schema open_invocation_text) (length open_invocation_text) 1
unfolding understood everything
whole_open = (omega arith, refl)

pub reads_open : (object : List ℕ) → IsReadable store_schema open_invocation_text (Text object ∷ [])
reads_open object = select_readable 1 invocation_columns 22 (equal 5 0 ∷ []) [] open_invocation_text (Text object ∷ []) selects_open whole_open refl

whole_awake : IsWhole (understood store_schema awake_ids_text) (length awake_ids_text) 1
unfolding understood everything
whole_awake = (omega arith, refl)

pub reads_awake : IsReadable store_schema awake_ids_text (flag_cell true ∷ [])
reads_awake = select_readable 1 (take 1 invocation_columns) 1 (equal 21 0 ∷ []) (by_columns (1 ∷ [])) awake_ids_text (flag_cell true ∷ []) selects_awake whole_awake refl

whole_completion : IsWhole (understood store_schema entry_by_completion_text) (length entry_by_completion_text) 2
unfolding understood everything
whole_completion = (omega arith, refl)

pub reads_completion : (invocation : List ℕ) (n : ℕ) → IsReadable store_schema entry_by_completion_text (Text invocation ∷ short_cell n ∷ [])
reads_completion invocation n = select_readable 0 entry_columns 9 (equal 0 0 ∷ equal 4 1 ∷ []) [] entry_by_completion_text (Text invocation ∷ short_cell n ∷ []) selects_completion whole_completion refl

whole_second : IsWhole (understood store_schema entry_by_second_completion_text) (length entry_by_second_completion_text) 2
unfolding understood everything
whole_second = (omega arith, refl)

pub reads_second : (invocation : List ℕ) (n : ℕ) → IsReadable store_schema entry_by_second_completion_text (Text invocation ∷ short_cell n ∷ [])
reads_second invocation n = select_readable 0 entry_columns 9 (equal 0 0 ∷ equal 5 1 ∷ []) [] entry_by_second_completion_text (Text invocation ∷ short_cell n ∷ []) selects_second whole_second refl

whole_answered : IsWhole (understood store_schema entry_by_answered_text) (length entry_by_answered_text) 2
unfolding understood everything
whole_answered = (omega arith, refl)

pub reads_answered : (invocation : List ℕ) (n : ℕ) → IsReadable store_schema entry_by_answered_text (Text invocation ∷ short_cell n ∷ [])
reads_answered invocation n = select_readable 0 entry_columns 9 (equal 0 0 ∷ equal 6 1 ∷ []) [] entry_by_answered_text (Text invocation ∷ short_cell n ∷ []) selects_answered whole_answered refl

whole_arrival : IsWhole (understood store_schema arrival_at_text) (length arrival_at_text) 2
unfolding understood everything
whole_arrival = (omega arith, refl)

pub reads_arrival : (invocation : List ℕ) (n : ℕ) → IsReadable store_schema arrival_at_text (Text invocation ∷ short_cell n ∷ [])
reads_arrival invocation n = select_readable 0 entry_columns 9 (equal 0 0 ∷ equal 7 1 ∷ []) [] arrival_at_text (Text invocation ∷ short_cell n ∷ []) selects_arrival whole_arrival refl

whole_place : IsWhole (understood store_schema entry_at_text) (length entry_at_text) 2
unfolding understood everything
whole_place = (omega arith, refl)

pub reads_place : (invocation : List ℕ) (place : ℕ) → IsReadable store_schema entry_at_text (Text invocation ∷ short_cell place ∷ [])
reads_place invocation place = select_readable 0 entry_columns 9 (equal 0 0 ∷ equal 1 1 ∷ []) [] entry_at_text (Text invocation ∷ short_cell place ∷ []) selects_place whole_place refl

whole_after : IsWhole (understood store_schema arrivals_after_text) (length arrivals_after_text) 2
unfolding understood everything
whole_after = (omega arith, refl)

pub reads_after : (invocation : List ℕ) (n : ℕ) → IsReadable store_schema arrivals_after_text (Text invocation ∷ short_cell n ∷ [])
reads_after invocation n = select_readable 0 entry_columns 9 (equal 0 0 ∷ behind 7 1 ∷ []) (by_columns (8 ∷ [])) arrivals_after_text (Text invocation ∷ short_cell n ∷ []) selects_after whole_after refl

whole_entries : IsWhole (understood store_schema entries_text) (length entries_text) 1
unfolding understood everything
whole_entries = (omega arith, refl)

pub reads_entries : (invocation : List ℕ) → IsReadable store_schema entries_text (Text invocation ∷ [])
reads_entries invocation = select_readable 0 entry_columns 9 (equal 0 0 ∷ []) (by_columns (2 ∷ [])) entries_text (Text invocation ∷ []) selects_entries whole_entries refl

whole_state : IsWhole (understood store_schema state_at_text) (length state_at_text) 2
unfolding understood everything
whole_state = (omega arith, refl)

pub reads_state : (object key : List ℕ) → IsReadable store_schema state_at_text (Text object ∷ Blob key ∷ [])
reads_state object key = select_readable 5 state_columns 3 (equal 0 0 ∷ equal 1 1 ∷ []) [] state_at_text (Text object ∷ Blob key ∷ []) selects_state whole_state refl

whole_states : IsWhole (understood store_schema states_text) (length states_text) 1
unfolding understood everything
whole_states = (omega arith, refl)

pub reads_states : (object : List ℕ) → IsReadable store_schema states_text (Text object ∷ [])
reads_states object = select_readable 5 state_columns 3 (equal 0 0 ∷ []) (by_columns (2 ∷ [])) states_text (Text object ∷ []) selects_states whole_states refl

whole_sleeps : IsWhole (understood store_schema sleeps_until_text) (length sleeps_until_text) 1
unfolding understood everything
whole_sleeps = (omega arith, refl)

pub reads_sleeps : (moment : ℕ) → IsReadable store_schema sleeps_until_text (long_cell moment ∷ [])
reads_sleeps moment = select_readable 4 sleep_columns 3 (until 0 0 ∷ []) (by_columns (2 ∷ 1 ∷ 3 ∷ [])) sleeps_until_text (long_cell moment ∷ []) selects_sleeps whole_sleeps refl

whole_marks : IsWhole (understood store_schema marks_text) (length marks_text) 0
unfolding understood everything
whole_marks = (omega arith, refl)

pub reads_marks : IsReadable store_schema marks_text []
reads_marks = select_readable 3 meta_columns 2 [] [] marks_text [] selects_marks whole_marks refl

module _ (tree : ℕ) (columns : List Column) (width : ℕ) (places : List Test) (order : List (Term × Key)) (sql : List ℕ) (params : Row) where
  abbrev first : Program
  first = program_of (first_row_query (rows_of tree (tests_of places) (columns_from 1 width) order))

  no_sums_first : (db : Trees) → ProgramOverflows db params [] (lets_of first) first.body → ⊥
  no_sums_first db (inl group) = group
  no_sums_first db (inr (at, row, within, is, sum)) = sum

  first_readable : IsFirstSelect sql tree columns width places order → IsWhole (understood store_schema sql) (length sql) (length params) → accepts_program store_schema (lets_of first) first.body params ≡ true → IsReadable store_schema sql params
  first_readable select whole accepts =
      readable_by store_schema sql params first (map (λ (c : Column). c.name) columns) accepts no_sums_first (understood store_schema sql) refl select.command select.plain whole select.unlisted

whole_first_sleep : IsWhole (understood store_schema first_sleep_text) (length first_sleep_text) 1
unfolding understood everything
whole_first_sleep = (omega arith, refl)

pub reads_first_sleep : (moment : ℕ) → IsReadable store_schema first_sleep_text (long_cell moment ∷ [])
reads_first_sleep moment = first_readable 4 sleep_columns 3 (from 0 0 ∷ []) (by_columns (1 ∷ [])) first_sleep_text (long_cell moment ∷ []) selects_first_sleep whole_first_sleep refl

whole_first_invocation : IsWhole (understood store_schema first_invocation_text) (length first_invocation_text) 0
unfolding understood everything
whole_first_invocation = (omega arith, refl)

pub reads_first_invocation : IsReadable store_schema first_invocation_text []
reads_first_invocation = first_readable 1 invocation_columns 22 [] (by_columns (1 ∷ [])) first_invocation_text [] selects_first_invocation whole_first_invocation refl

whole_invocation_after : IsWhole (understood store_schema invocation_after_text) (length invocation_after_text) 1
unfolding understood everything
whole_invocation_after = (omega arith, refl)

pub reads_invocation_after : (id : List ℕ) → IsReadable store_schema invocation_after_text (Text id ∷ [])
reads_invocation_after id =
    first_readable 1 invocation_columns 22 (behind 0 0 ∷ []) (by_columns (1 ∷ [])) invocation_after_text (Text id ∷ []) selects_invocation_after whole_invocation_after refl
