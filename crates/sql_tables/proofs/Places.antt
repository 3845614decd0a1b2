-- A change of a table of columns and keys is refused only where a row finds no place.
use Rattle.std.proofs.Common.{drop, filter, map, ◌≡◌, ◌⊎◌, ◌∙◌, ◌/◌, ℕ, inl, inr, true, List, [], ◌∷◌, length, slice_get, Some, None, Option, Err, IsTrue, refl, sym, ap, subst}
use Rattle.std.specs.List.{AllByRecursion}
use Rattle.sqlite.specs.declared.types.Value.{Value}
use Rattle.sqlite.specs.declared.types.Value.TheVariants.{Int, Null}
use Rattle.sqlite_value.specs.Order.{Row}
use Rattle.sqlite_value.specs.declared.keys.Order.{Order}
use Rattle.sqlite_typing.specs.Types.{accepts_program, accepts_terms}
use Rattle.sqlite_sql.specs.Program.{ProgramOverflows}
use Rattle.sqlite_schema.specs.Program.{lets_of}
use Rattle.sqlite_schema.specs.declared.program.Program.{Program}
use Rattle.sqlite_schema.specs.Rules.{are_present, are_typed}
use Rattle.sqlite_schema.specs.declared.schema.Column.{Column}
use Rattle.sqlite_schema.specs.declared.schema.Keys.TheVariants.{Enforced}
use Rattle.sqlite_rules.specs.Calls.{ids_of}
use Rattle.sqlite_rules.specs.Edit.{edit_of, next_rowid, without_all}
use Rattle.sqlite_rules.specs.Lists.{Has}
use Rattle.sqlite_rules.proofs.ListLemmas.{all_from, all_has, has_filtered}
use Rattle.sqlite_rules.proofs.PlaceLemmas.{given}
use Rattle.sqlite_trees.proofs.ListLemmas.{all-permutation}
use Rattle.sqlite_keyed.proofs.ListLemmas.{all_map}
use Rattle.std.proofs.lemmas.List.Sorted.{IsPermutation-sym}
use Rattle.sqlite_trees.specs.Tree.{rowid}
use Rattle.sqlite_trees.specs.View.{is_int}
use Rattle.sqlite.specs.Cast.{cast_all, cast_row}
use Rattle.sqlite.specs.Command.TheVariants.{Delete, Insert, Update}
use Rattle.sqlite.specs.Rowids.TheVariants.{Chosen, Given}
use Rattle.sqlite.specs.Schema.{Schema}
use Rattle.sqlite.specs.Source.TheVariants.{Values}
use Rattle.sqlite.specs.Table.{Table}
use Rattle.sqlite.specs.Term.{Term, col, eval_all}
use Rattle.sqlite.specs.declared.error.Error.{Error}
use Rattle.sqlite.specs.Effect.{Database, value_rows}
use Rattle.sqlite.specs.Listing.{understood}
use Rattle.sqlite.proofs.Callers.{IsPlain, command_of}
use Rattle.sql_tables.specs.Causes.{StatementComesTo, IsRefusedFor, Statement, enforced}
use Rattle.sql_tables.specs.Columns.{NoneRefers, table_at}
use Rattle.sql_tables.specs.Content.{HasRows}
use Rattle.sql_tables.specs.Statements.{program_of, rows_of}
use Rattle.sql_tables.specs.Refusals.{IsPlaceCause, has_no_place}
use Rattle.sql_tables.proofs.Refusals.{PassesAlone, StopsAtLimit, StopsEdit, delete_refused, insert_refused, stop_place, told, update_refused}
use Rattle.sql_tables.proofs.Answers.{passes}
use Rattle.sql_tables.proofs.Comes.{comes_as}
use Rattle.sql_tables.proofs.Rows.{mapped}
use Rattle.sql_tables.proofs.Tables.{cells, rewrites}
use Rattle.sql_tables.proofs.Writes.{cast_null}

-- cells that pass each rule on a row alone, whatever rowid is before them
pub record AreTyped (columns : List Column) (cells : Row) : Type 0 where
  pub typed : are_typed None 0 columns cells ≡ true
  pub present : (id : Value) → are_present None 0 columns (id ∷ cells) ≡ true

-- a refusal, or a row that cannot be stored
pub refused_as : (limit : Option ℕ) (one : Statement) (db : Database) (cause : Error) → IsRefusedFor limit one db cause → (stop : Option Error) × StatementComesTo limit one db (Err stop) × (cause ≡ told stop)
refused_as limit one db cause (inl refused) = (Some cause, refused, refl)
refused_as limit one db cause (inr (is, refused)) = (None, refused, is)

at_limit : (limit : Option ℕ) (stop : Option Error) (cause : Error) → cause ≡ told stop → StopsAtLimit limit stop → IsPlaceCause limit cause
at_limit limit stop cause is (set, met) = inr (is ∙ ap told met, set)

-- the rows of a table that pass, each with its rowid and other columns
abbrev pub changed : ℕ → List Term → List Term → Program
changed tree tests sets = program_of (rows_of tree tests (col 1 0 ∷ col 1 0 ∷ sets) [])

module _ (schema : Schema) (free : NoneRefers schema) (limit : Option ℕ) (one : Statement) (db : Database) (has : db.schema ≡ schema) (plain : IsPlain (understood schema one.sql)) where
  module _ (tree : ℕ) (name : List ℕ) (columns : List Column) (uniques : List (List ℕ)) (orders : List Order) (at : ℕ) (found : slice_get schema.tables at ≡ Some (table_at tree name columns uniques orders)) (cause : Error) (refused : IsRefusedFor limit one db cause) where
    abbrev table : Table
    table = table_at tree name columns uniques orders

    abbrev Alone : Row → Type 0
    Alone = PassesAlone schema free limit Enforced tree name columns uniques orders one.params

    -- one row is to be added: a limit on steps was met, or the row itself is refused
    pub insert_stops : (terms : List Term) (width : ℕ) (cells : Row) → command_of (understood schema one.sql) ≡ Insert at (Values terms width) → accepts_terms terms one.params ≡ true
        → value_rows one.params width (length terms / width) terms ≡ (Null ∷ cells) ∷ [] → cast_all columns cells ≡ cells
        → (stop : Option Error) × (cause ≡ told stop) × (StopsAtLimit limit stop ⊎ StopsEdit schema Enforced db.trees (record { table = table; gone = []; news = (Int (next_rowid (db.trees tree)) ∷ cells) ∷ [] }) stop)
    insert_stops terms width cells is accepts values casts =
        let stop = refused_as limit one db cause refused in
        let does = comes_as schema free limit one db has plain (Insert at (Values terms width)) is (Err stop.0) stop.1 in (
          stop.0,
          stop.2,
          elim (insert_refused schema free limit Enforced tree name columns uniques orders one.params enforced refl does.0 at found db.trees stop.0 terms width accepts does.1) [
            | inl met ↦ inl met
            | inr (rows, source, stops) ↦
                let news : (edit_of db.trees table [] Chosen 0 rows).news ≡ (Int (next_rowid (db.trees tree)) ∷ cells) ∷ [] = ap (λ all. (edit_of db.trees table [] Chosen 0 all).news) (source.1 ∙ values) ∙ rw (cast_null, casts) refl in
                inr (subst (λ all. StopsEdit schema Enforced db.trees (record { table = table; gone = []; news = all }) stop.0) news stops)
          ],
        )

    -- so it finds no place
    pub insert_place : (terms : List Term) (width : ℕ) (cells : Row) → command_of (understood schema one.sql) ≡ Insert at (Values terms width) → accepts_terms terms one.params ≡ true
        → value_rows one.params width (length terms / width) terms ≡ (Null ∷ cells) ∷ [] → cast_all columns cells ≡ cells → AreTyped columns cells → IsPlaceCause limit cause
    insert_place terms width cells is accepts values casts fits =
        let alone : AllByRecursion Alone ((Int (next_rowid (db.trees tree)) ∷ cells) ∷ []) = (record { keyed = refl; typed = fits.typed; present = fits.present (Int (next_rowid (db.trees tree))) }, tt) in
        let it = insert_stops terms width cells is accepts values casts in
        elim it.2 [
          | inl met ↦ at_limit limit it.0 cause it.1 met
          | inr stops ↦ inl (subst (λ e. IsTrue (has_no_place e)) (sym it.1) (stop_place schema free limit Enforced tree name columns uniques orders one.params db.trees [] ((Int (next_rowid (db.trees tree)) ∷ cells) ∷ []) alone it.0 stops))
        ]

    -- rows are to be removed
    pub delete_place : (q : Program) → command_of (understood schema one.sql) ≡ Delete at q → accepts_program schema (lets_of q) q.body one.params ≡ true → (ProgramOverflows db.trees one.params [] (lets_of q) q.body → ⊥)
        → IsPlaceCause limit cause
    delete_place q is accepts sums =
        let stop = refused_as limit one db cause refused in
        let does = comes_as schema free limit one db has plain (Delete at q) is (Err stop.0) stop.1 in
        elim (delete_refused schema free limit Enforced tree name columns uniques orders one.params enforced refl does.0 at found db.trees stop.0 q accepts sums does.1) [
          | inl met ↦ at_limit limit stop.0 cause stop.2 met
          | inr (rows, asked, stops) ↦
              inl (subst (λ e. IsTrue (has_no_place e)) (sym stop.2) (stop_place schema free limit Enforced tree name columns uniques orders one.params db.trees (ids_of rows) [] tt stop.0 stops))
        ]

    -- rows are to be written in place of others
    pub update_place : (tests sets : List Term) (V : Row → Type 0) → command_of (understood schema one.sql) ≡ Update at (changed tree tests sets)
        → accepts_program schema (lets_of (changed tree tests sets)) (changed tree tests sets).body one.params ≡ true
        → (ProgramOverflows db.trees one.params [] (lets_of (changed tree tests sets)) (changed tree tests sets).body → ⊥)
        → ((r : Row) → V (drop 1 r) → AreTyped columns (cast_all columns (eval_all sets (one.params ∷ r ∷ []))))
        → (held : List Row) → AllByRecursion V held → HasRows (db.trees tree) held → IsPlaceCause limit cause
    update_place tests sets V is accepts sums fits held valid has_rows =
        let q = changed tree tests sets in
        let stop = refused_as limit one db cause refused in
        let does = comes_as schema free limit one db has plain (Update at q) is (Err stop.0) stop.1 in
        elim (update_refused schema free limit Enforced tree name columns uniques orders one.params enforced refl does.0 at found db.trees stop.0 q accepts sums does.1) [
          | inl met ↦ at_limit limit stop.0 cause stop.2 met
          | inr (rows, asked, stops) ↦
              let written = map (λ s. cast_row table (drop 1 s)) rows in
              let put : (edit_of db.trees table (ids_of rows) Given 1 rows).news ≡ written = given (without_all (db.trees tree) (ids_of rows)) written in
              let wrote = rewrites schema one.params Enforced db db tree name columns uniques orders tests sets rows asked in
              let there : (r : Row) → Has (db.trees tree) r → V (drop 1 r) =
              λ r k. all_has V _ (drop 1 r) (all-permutation V held (map (drop 1) (db.trees tree)) (IsPermutation-sym _ _ has_rows.same) valid) (mapped (drop 1) (db.trees tree) r k) in
              let passing : (r : Row) → Has (filter (passes one.params tests) (db.trees tree)) r → Alone (cast_row table (drop 1 (eval_all (col 1 0 ∷ col 1 0 ∷ sets) (one.params ∷ r ∷ [])))) =
              λ r k.
              let in_tree = (has_filtered (passes one.params tests) (db.trees tree) r k).0 in
              let int = all_has (λ r. is_int (rowid r) ≡ true) (db.trees tree) r has_rows.numbered.ints in_tree in
              let fit = fits r (there r in_tree) in
              subst Alone (sym (cells schema one.params Enforced db db tree name columns uniques orders sets r int)) (record { keyed = int; typed = fit.typed; present = fit.present (rowid r) }) in
              let alone : AllByRecursion Alone written =
              all-permutation Alone _ written wrote (all_map Alone _ (filter (passes one.params tests) (db.trees tree)) (all_from _ (filter (passes one.params tests) (db.trees tree)) passing)) in
              inl (subst (λ e. IsTrue (has_no_place e)) (sym stop.2)
              (stop_place schema free limit Enforced tree name columns uniques orders one.params db.trees (ids_of rows) written alone stop.0 (subst (λ all. StopsEdit schema Enforced db.trees (record { table = table; gone = ids_of rows; news = all }) stop.0) put stops)))
        ]
