-- Each statement as a change of one table's rows.
use Rattle.std.proofs.Common.{◌≡◌, ◌/◌, ℕ, Bool, true, false, not, List, [], ◌∷◌, ◌++◌, map, filter, drop, length, slice_get, Some, cond, Ok, refl, sym, ap, subst, ◌∙◌}
use Rattle.std.proofs.lemmas.Bool.{and_parts, not-true}
use Rattle.sqlite.specs.declared.types.Value.TheVariants.{Null, Int}
use Rattle.sqlite_value.specs.Order.{Row}
use Rattle.sqlite_value.specs.declared.keys.Order.{Order}
use Rattle.sqlite.specs.Term.{Term, col, eval_all}
use Rattle.sqlite.specs.Source.TheVariants.{Values}
use Rattle.sqlite.specs.Command.TheVariants.{Insert, Delete, Update}
use Rattle.sqlite.specs.Cast.{cast, cast_row, cast_all}
use Rattle.sqlite.specs.Rowids.TheVariants.{Chosen, Given}
use Rattle.sqlite_schema.specs.declared.schema.Column.{Column}
use Rattle.sqlite_trees.specs.Tree.{rowid, put_row}
use Rattle.sqlite_trees.specs.View.{is_int}
use Rattle.sqlite.specs.Kind.TheVariants.{Integer}
use Rattle.std.specs.List.{AllByRecursion}
use Rattle.std.specs.List.Sorted.{IsPermutation}
use Rattle.std.proofs.lemmas.List.Sorted.{IsPermutation-map}
use Rattle.sqlite_keyed.proofs.ListLemmas.{map-map}
use Rattle.sqlite_rules.proofs.PlaceLemmas.{given}
use Rattle.sqlite_rules.proofs.TableLemmas.{int_is}
use Rattle.sqlite_rules.specs.Edit.{Applies, Edit, id_in, edit_of, next_rowid, are_fresh, is_taken, without_all}
use Rattle.sqlite_rules.specs.Calls.{ids_of}
use Rattle.sqlite.specs.Effect.{Answers, Database, IsSource, value_rows}
use Rattle.sqlite.specs.State.{State, Executes, mode_of}
use Rattle.sqlite.specs.Table.{Table}
use Rattle.sqlite_schema.specs.declared.schema.Keys.{Keys}
use Rattle.sqlite.specs.Listing.{understood}
use Rattle.sqlite_sql.specs.Program.{overlay}
use Rattle.sqlite.proofs.Callers.{IsPlain, command_of}
use Rattle.sqlite.specs.Schema.{Schema}
use Rattle.sql_tables.specs.Columns.{NoneRefers, table_at}
use Rattle.sql_tables.specs.Statements.{rows_of, program_of}
use Rattle.sql_tables.specs.Content.{HasRows}
use Rattle.sql_tables.specs.Changes.{ChangesTable, KeepsOthers}
use Rattle.sql_tables.proofs.Rows.{deleted, rows_filter, rows_put, rows_update}
use Rattle.sql_tables.proofs.Answers.{passes, answered, shows, no_let}
use Rattle.sql_tables.proofs.Writes.{cast_null, cast_int, insert_runs, delete_runs, update_runs}

-- ---- from one database to another

module _ (schema : Schema) (params : Row) (keys : Keys) (old new : Database) (tree : ℕ) (name : List ℕ) (columns : List Column) (uniques : List (List ℕ)) (orders : List Order) where
  abbrev pub before : Database
  before = record { schema = schema; trees = old.trees }

  abbrev pub table : Table
  table = table_at tree name columns uniques orders

  -- rows that a text asks for were written so
  abbrev pub Wrote : (List Row → Type 0) → (List Row → Edit) → Type 0
  Wrote Asked edit = (new.schema ≡ schema) × (rows : List Row) × Asked rows × Applies schema keys old.trees (edit rows) new.trees

  -- a row of these columns is added
  pub insert_changed : (terms : List Term) (width : ℕ) (cells : Row) → value_rows params width (length terms / width) terms ≡ (Null ∷ cells) ∷ [] → cast_all columns cells ≡ cells
      → Wrote (IsSource before params (Values terms width)) (edit_of old.trees table [] Chosen 0) → ChangesTable schema tree (λ rows. rows ++ cells ∷ []) old new
  insert_changed terms width cells values casts r =
      let db = old.trees in
      let row : Row = Int (next_rowid (db tree)) ∷ cells in
      let news : (edit_of db table [] Chosen 0 r.1).news ≡ row ∷ [] = ap (λ all. (edit_of db table [] Chosen 0 all).news) (r.2.1 ∙ values) ∙ rw (cast_null, casts) in
      let rows : new.trees tree ≡ put_row row (db tree) = r.3.rows ∙ ap (λ (l : List Row). Rattle.sqlite_rules.specs.Edit.put_all (db tree) l) news in
      let free : is_taken (db tree) row ≡ false = not-true _ (and_parts _ _ (subst (λ l. are_fresh (db tree) l ≡ true) news r.3.fresh)).0 in
      record {
        schema = r.0;
        rows = λ held h. subst (λ t. HasRows t (held ++ cells ∷ [])) (sym rows) (rows_put row (db tree) held refl free h);
        others = r.3.tables;
      }

  -- the rows that pass are removed
  pub delete_changed : (tests : List Term) (keeps : Row → Bool) → ((r : Row) → not (passes params tests r) ≡ keeps (drop 1 r))
      → Wrote (Answers before (program_of (rows_of tree tests (col 1 0 ∷ []) [])) params) (λ rows. edit_of old.trees table (ids_of rows) Given 0 []) → ChangesTable schema tree (filter keeps) old new
  delete_changed tests keeps same r =
      let db = old.trees in
      let answer = answered tree tests (col 1 0 ∷ []) [] (overlay db []) params r.1 (r.2.answer Null) in
      let here : overlay db [] tree ≡ db tree = no_let db tree in
      let listed = shows tree tests (col 1 0 ∷ []) [] (overlay db []) params r.1 _ answer in
      record {
        schema = r.0;
        rows = λ held h. subst (λ t. HasRows t (filter keeps held)) (sym (r.3.rows ∙ deleted (passes params tests) (db tree) r.1 h.numbered (rw here at listed))) (rows_filter _ keeps same (db tree) held h);
        others = r.3.tables;
      }

  abbrev rewritten : List Term → List Term
  rewritten sets = col 1 0 ∷ col 1 0 ∷ sets

  -- what is written in place of the rows that pass
  pub rewrites : (tests sets : List Term) (rows : List Row) → Answers before (program_of (rows_of tree tests (rewritten sets) [])) params rows
      → IsPermutation (map (λ (row : Row). cast_row table (drop 1 (eval_all (rewritten sets) (params ∷ row ∷ [])))) (filter (passes params tests) (old.trees tree))) (map (λ s. cast_row table (drop 1 s)) rows)
  rewrites tests sets rows asked =
      let project = rewritten sets in
      let db = old.trees in
      let answer = answered tree tests project [] (overlay db []) params rows (asked.answer Null) in
      let listed = rw (no_let db tree) at (shows tree tests project [] (overlay db []) params rows _ answer) in
      subst (λ l. IsPermutation l (map (λ s. cast_row table (drop 1 s)) rows)) (map-map (λ s. cast_row table (drop 1 s)) (λ row. eval_all project (params ∷ row ∷ [])) _) (IsPermutation-map (λ s. cast_row table (drop 1 s)) _ _ listed)

  pub cells : (sets : List Term) (row : Row) → is_int (rowid row) ≡ true → cast_row table (drop 1 (eval_all (rewritten sets) (params ∷ row ∷ []))) ≡ rowid row ∷ cast_all columns (eval_all sets (params ∷ row ∷ []))
  cells sets row int = ap (λ v. v ∷ cast_all columns (eval_all sets (params ∷ row ∷ []))) (ap (cast Integer) (int_is (rowid row) int) ∙ cast_int (id_in (rowid row)) ∙ sym (int_is (rowid row) int))

  -- the rows that pass get other columns
  pub update_changed : (tests sets : List Term) (passing : Row → Bool) (change : Row → Row) (V : Row → Type 0)
      → ((r : Row) → passes params tests r ≡ passing (drop 1 r)) → ((r : Row) → V (drop 1 r) → cast_all columns (eval_all sets (params ∷ r ∷ [])) ≡ change (drop 1 r))
      → Wrote (Answers before (program_of (rows_of tree tests (rewritten sets) [])) params) (λ rows. edit_of old.trees table (ids_of rows) Given 1 rows)
      → (new.schema ≡ schema) × ((held : List Row) → AllByRecursion V held → HasRows (old.trees tree) held → HasRows (new.trees tree) (map (λ c. cond (passing c) (change c) c) held))
      × KeepsOthers schema tree old new
  update_changed tests sets passing change V same writes r =
      let project = rewritten sets in
      let db = old.trees in
      let answer = answered tree tests project [] (overlay db []) params r.1 (r.2.answer Null) in
      let listed = rw (no_let db tree) at (shows tree tests project [] (overlay db []) params r.1 _ answer) in
      let news = λ (row : Row). cast_row table (drop 1 (eval_all project (params ∷ row ∷ []))) in
      let ids : IsPermutation (map (λ r. rowid r ∷ []) (filter (passes params tests) (db tree))) (map (λ (a : Row). rowid a ∷ []) r.1) =
      subst (λ l. IsPermutation l (map (λ (a : Row). rowid a ∷ []) r.1)) (map-map (λ (a : Row). rowid a ∷ []) (λ row. eval_all project (params ∷ row ∷ [])) _) (IsPermutation-map (λ (a : Row). rowid a ∷ []) _ _ listed) in
      let same_ids : ids_of (map (λ (a : Row). rowid a ∷ []) r.1) ≡ ids_of r.1 = map-map (λ (a : Row). id_in (rowid a)) (λ (a : Row). rowid a ∷ []) r.1 in
      let written = map (λ s. cast_row table (drop 1 s)) r.1 in
      let wrote : IsPermutation (map news (filter (passes params tests) (db tree))) written = rewrites tests sets r.1 r.2 in
      let put : (edit_of db table (ids_of r.1) Given 1 r.1).news ≡ written = given (without_all (db tree) (ids_of r.1)) written in (
        r.0,
        λ held valid h.
            let left : without_all (db tree) (ids_of r.1) ≡ filter (λ r. not (passes params tests r)) (db tree) =
            ap (without_all (db tree)) (sym same_ids) ∙ deleted (passes params tests) (db tree) (map (λ (a : Row). rowid a ∷ []) r.1) h.numbered ids in
            let fresh = rw (put, left) at r.3.fresh in
            let rows = rw (put, left) at r.3.rows in
            subst (λ t. HasRows t (map (λ c. cond (passing c) (change c) c) held)) (sym rows)
            (rows_update (passes params tests) passing news change V same (λ row int v. cells sets row int ∙ ap (λ (l : Row). rowid row ∷ l) (writes row v)) (db tree) held written h valid wrote fresh),
        r.3.tables,
      )

-- ---- from one state to another

module _ (schema : Schema) (free : NoneRefers schema) (sql : List ℕ) (params : Row) (old new : State) (has : old.now.schema ≡ schema) (plain : IsPlain (understood schema sql)) (count : ℕ) (ran : Executes sql params old new (Ok count))
    (tree : ℕ) (name : List ℕ) (columns : List Column) (uniques : List (List ℕ)) (orders : List Order) (at : ℕ) (found : slice_get schema.tables at ≡ Some (table_at tree name columns uniques orders)) where
  abbrev keys_of : Keys
  keys_of = (mode_of old).keys

  pub insert_changes : (terms : List Term) (width : ℕ) (cells : Row) → command_of (understood schema sql) ≡ Insert at (Values terms width)
      → value_rows params width (length terms / width) terms ≡ (Null ∷ cells) ∷ [] → cast_all columns cells ≡ cells
      → ChangesTable schema tree (λ rows. rows ++ cells ∷ []) old.now new.now
  insert_changes terms width cells is values casts =
      insert_changed schema params keys_of old.now new.now tree name columns uniques orders terms width cells values casts
      (insert_runs schema free sql params old new has plain count ran tree name columns uniques orders at found terms width is)

  pub delete_changes : (tests : List Term) (keeps : Row → Bool) → command_of (understood schema sql) ≡ Delete at (program_of (rows_of tree tests (col 1 0 ∷ []) []))
      → ((r : Row) → not (passes params tests r) ≡ keeps (drop 1 r))
      → ChangesTable schema tree (filter keeps) old.now new.now
  delete_changes tests keeps is same =
      delete_changed schema params keys_of old.now new.now tree name columns uniques orders tests keeps same
      (delete_runs schema free sql params old new has plain count ran tree name columns uniques orders at found (program_of (rows_of tree tests (col 1 0 ∷ []) [])) is)

  pub update_changes : (tests sets : List Term) (passing : Row → Bool) (change : Row → Row) (V : Row → Type 0) → command_of (understood schema sql) ≡ Update at (program_of (rows_of tree tests (col 1 0 ∷ col 1 0 ∷ sets) []))
      → ((r : Row) → passes params tests r ≡ passing (drop 1 r)) → ((r : Row) → V (drop 1 r) → cast_all columns (eval_all sets (params ∷ r ∷ [])) ≡ change (drop 1 r))
      → (new.now.schema ≡ schema) × ((held : List Row) → AllByRecursion V held → HasRows (old.now.trees tree) held → HasRows (new.now.trees tree) (map (λ c. cond (passing c) (change c) c) held))
      × KeepsOthers schema tree old.now new.now
  update_changes tests sets passing change V is same writes =
      update_changed schema params keys_of old.now new.now tree name columns uniques orders tests sets passing change V same writes
      (update_runs schema free sql params old new has plain count ran tree name columns uniques orders at found (program_of (rows_of tree tests (col 1 0 ∷ col 1 0 ∷ sets) [])) is)
