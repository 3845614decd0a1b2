-- What a change of a table of columns and keys comes to, from one database to another.
use Rattle.std.proofs.Common.{◌++◌, Bool, cond, drop, filter, map, not, ◌≡◌, ◌∙◌, ◌/◌, ℕ, List, [], ◌∷◌, length, slice_get, Some, None, Option, Ok, sym, ap, subst, subst₂}
use Rattle.std.specs.List.{AllByRecursion}
use Rattle.sqlite.specs.declared.types.Value.TheVariants.{Null}
use Rattle.sqlite_value.specs.Order.{Row}
use Rattle.sqlite_schema.specs.declared.schema.Column.{Column}
use Rattle.sqlite_schema.specs.declared.schema.Keys.TheVariants.{Enforced}
use Rattle.sqlite_schema.specs.declared.command.Command.{Command}
use Rattle.sqlite.specs.Cast.{cast_all}
use Rattle.sqlite.specs.Schema.{Schema}
use Rattle.sqlite.specs.Source.TheVariants.{Values}
use Rattle.sqlite.specs.Does.{Does, Tally}
use Rattle.sqlite.specs.Rows.{Outcome}
use Rattle.sqlite.specs.State.{text_of}
use Rattle.sqlite.specs.Listing.{understood}
use Rattle.sqlite.proofs.Callers.{IsPlain, command_of}
use Rattle.sql_tables.specs.Causes.{StatementComesTo, Statement, enforced}
use Rattle.sql_tables.specs.Columns.{NoneRefers, table_at}
use Rattle.sqlite.specs.Command.TheVariants.{Delete, Insert, Update}
use Rattle.sqlite.specs.Term.{Term, col, eval_all}
use Rattle.sqlite.specs.Effect.{Database, value_rows}
use Rattle.sqlite_value.specs.declared.keys.Order.{Order}
use Rattle.sql_tables.specs.Changes.{ChangesTable, KeepsOthers}
use Rattle.sql_tables.specs.Content.{HasRows}
use Rattle.sql_tables.specs.Statements.{program_of, rows_of}
use Rattle.sql_tables.proofs.Answers.{passes}
use Rattle.sql_tables.proofs.Tables.{delete_changed, insert_changed, update_changed}
use Rattle.sql_tables.proofs.Writes.{delete_does, insert_does, update_does}

module _ (schema : Schema) (free : NoneRefers schema) (limit : Option ℕ) (one : Statement) (db : Database) (has : db.schema ≡ schema) (plain : IsPlain (understood schema one.sql)) where
  abbrev here : Database
  here = record { schema = schema; trees = db.trees }

  -- what a text comes to that is this command
  pub comes_as : (command : Command) → command_of (understood schema one.sql) ≡ command → (out : Outcome (Tally × Database)) → StatementComesTo limit one db out
      → (text : List ℕ) × Does limit enforced one.params here text None command out
  comes_as command is out comes =
      let c = comes.0 in
      let known : understood schema one.sql ≡ Ok c = ap (λ s. understood s one.sql) (sym has) ∙ comes.1 in
      let bare = subst IsPlain known plain in
      let said : c.command ≡ command = sym (ap command_of known) ∙ is in
      let text = text_of one.sql c in
      (text, subst (λ s. Does limit enforced one.params (record db { schema = s }) text None command out) has (subst₂ (λ r k. Does limit enforced one.params db text r k out) bare.0 said comes.2))

  module _ (tree : ℕ) (name : List ℕ) (columns : List Column) (uniques : List (List ℕ)) (orders : List Order) (at : ℕ) (found : slice_get schema.tables at ≡ Some (table_at tree name columns uniques orders))
      (tally : Tally) (after : Database) (comes : StatementComesTo limit one db (Ok (tally, after))) where
    -- a row of these columns is added
    pub insert_comes : (terms : List Term) (width : ℕ) (cells : Row) → command_of (understood schema one.sql) ≡ Insert at (Values terms width)
        → value_rows one.params width (length terms / width) terms ≡ (Null ∷ cells) ∷ [] → cast_all columns cells ≡ cells → ChangesTable schema tree (λ rows. rows ++ cells ∷ []) db after
    insert_comes terms width cells is values casts =
        let does = comes_as (Insert at (Values terms width)) is (Ok (tally, after)) comes in
        insert_changed schema one.params Enforced db after tree name columns uniques orders terms width cells values casts
        (insert_does schema free limit enforced one.params does.0 db.trees tally after tree name columns uniques orders at found terms width does.1)

    -- the rows that pass are removed
    pub delete_comes : (tests : List Term) (keeps : Row → Bool) → command_of (understood schema one.sql) ≡ Delete at (program_of (rows_of tree tests (col 1 0 ∷ []) []))
        → ((r : Row) → not (passes one.params tests r) ≡ keeps (drop 1 r)) → ChangesTable schema tree (filter keeps) db after
    delete_comes tests keeps is same =
        let does = comes_as (Delete at (program_of (rows_of tree tests (col 1 0 ∷ []) []))) is (Ok (tally, after)) comes in
        delete_changed schema one.params Enforced db after tree name columns uniques orders tests keeps same
        (delete_does schema free limit enforced one.params does.0 db.trees tally after tree name columns uniques orders at found (program_of (rows_of tree tests (col 1 0 ∷ []) [])) does.1)

    -- the rows that pass get other columns
    pub update_comes : (tests sets : List Term) (passing : Row → Bool) (change : Row → Row) (V : Row → Type 0)
        → command_of (understood schema one.sql) ≡ Update at (program_of (rows_of tree tests (col 1 0 ∷ col 1 0 ∷ sets) []))
        → ((r : Row) → passes one.params tests r ≡ passing (drop 1 r)) → ((r : Row) → V (drop 1 r) → cast_all columns (eval_all sets (one.params ∷ r ∷ [])) ≡ change (drop 1 r))
        → (after.schema ≡ schema) × ((held : List Row) → AllByRecursion V held → HasRows (db.trees tree) held → HasRows (after.trees tree) (map (λ c. cond (passing c) (change c) c) held)) × KeepsOthers schema tree db after
    update_comes tests sets passing change V is same writes =
        let q = program_of (rows_of tree tests (col 1 0 ∷ col 1 0 ∷ sets) []) in
        let does = comes_as (Update at q) is (Ok (tally, after)) comes in
        update_changed schema one.params Enforced db after tree name columns uniques orders tests sets passing change V same writes
        (update_does schema free limit enforced one.params does.0 db.trees tally after tree name columns uniques orders at found q does.1)
