-- What CREATE TABLE and CREATE INDEX do.
use Rattle.std.proofs.Common.{◌≡◌, ℕ, List, [], false, None, Some, Ok, slice_get, sym, ap, subst, ◌∙◌, arith}
use Rattle.std.proofs.lemmas.List.Sorted.{IsPermutation-refl}
use Rattle.sqlite_value.specs.Order.{Row}
use Rattle.sqlite.specs.Table.{Table}
use Rattle.sqlite_schema.specs.declared.schema.Index.{Index}
use Rattle.sqlite.specs.Schema.{Schema}
use Rattle.sqlite.specs.Command.TheVariants.{CreateTable, CreateIndex}
use Rattle.sqlite.specs.Compile.{table_defined_by, index_defined_by}
use Rattle.sqlite.specs.Change.{created, indexed, next_tree}
use Rattle.sqlite_catalog.specs.Change.{KeepsRows}
use Rattle.sqlite.specs.Does.{AtPlace, Defines, Does, MakesIndex, Tally, lacks_sequence}
use Rattle.sqlite.specs.Tree.{Trees}
use Rattle.sqlite.specs.Effect.{Database}
use Rattle.sqlite.specs.State.{State, Writes, Executes, mode_of}
use Rattle.sqlite.specs.Listing.{understood}
use Rattle.sqlite.proofs.Callers.{IsPlain, command_of, statement_of, runs_as}
use Rattle.sql_tables.specs.Content.{HasRows}
use Rattle.sql_tables.proofs.Writes.{went, same_value}

-- the text makes that table, from this schema
pub record IsMaking (schema : Schema) (sql : List ℕ) (table : Table) : Type 0 where
  pub command : command_of (understood schema sql) ≡ CreateTable
  pub text : statement_of sql (understood schema sql) ≡ sql
  pub plain : IsPlain (understood schema sql)
  pub defined : table_defined_by sql ≡ Ok table
  pub uncounted : lacks_sequence (created schema table) ≡ false

-- the table is there then, empty, and the others are as they were
pub table_made : (schema : Schema) (sql : List ℕ) (table : Table) → IsMaking schema sql table → (old new : State) (count : ℕ) → old.now.schema ≡ schema → Executes sql [] old new (Ok count)
    → (new.now.schema ≡ created schema table) × (new.now.trees (next_tree schema) ≡ []) × KeepsRows schema.tables old.now.trees new.now.trees
table_made schema sql table it old new count has h =
    let w = subst (λ t. Writes old new None CreateTable t [] count) it.text (runs_as sql [] old new schema has CreateTable it.command it.plain count h) in
    let all = went w.changed in
    let first = went all.1 in
    let made = first.1 in
    let both : Ok made.table ≡ Ok table = sym made.defined ∙ it.defined in
    let same : made.table ≡ table = cc in
    let becomes : first.0.schema ≡ created schema table = made.is ∙ ap (λ s. created s made.table) has ∙ ap (created schema) same in
    let bare : lacks_sequence first.0.schema ≡ false = ap lacks_sequence becomes ∙ it.uncounted in
    let now : new.now ≡ first.0 = ap (λ (p : Tally × Database). p.1) (same_value all.2) ∙ same_value (rw bare at first.2) in (
      ap (λ (d : Database). d.schema) now ∙ becomes,
      ap (λ (d : Database). d.trees (next_tree schema)) now ∙ subst (λ s. first.0.trees (next_tree s) ≡ []) has made.empty,
      subst (λ (t : Trees). KeepsRows schema.tables old.now.trees t) (sym (ap (λ (d : Database). d.trees) now)) (subst (λ (s : Schema). KeepsRows s.tables old.now.trees first.0.trees) has made.others),
    )

-- the text makes that index of that table, from this schema
pub record IsIndexing (schema : Schema) (sql : List ℕ) (at : ℕ) (table : Table) (index : Index) : Type 0 where
  pub command : command_of (understood schema sql) ≡ CreateIndex at
  pub text : statement_of sql (understood schema sql) ≡ sql
  pub plain : IsPlain (understood schema sql)
  pub found : slice_get schema.tables at ≡ Some table
  pub defined : index_defined_by table sql ≡ Ok index

-- the index is there then, and the tables are as they were
pub index_made : (schema : Schema) (sql : List ℕ) (at : ℕ) (table : Table) (index : Index) → IsIndexing schema sql at table index → (old new : State) (count : ℕ) → old.now.schema ≡ schema → Executes sql [] old new (Ok count)
    → (new.now.schema ≡ indexed schema table index) × KeepsRows schema.tables old.now.trees new.now.trees
index_made schema sql at table index it old new count has h =
    let w = subst (λ t. Writes old new None (CreateIndex at) t [] count) it.text (runs_as sql [] old new schema has (CreateIndex at) it.command it.plain count h) in
    let out = Ok (w.tally, new.now) in
    let does = subst (λ s. Does old.step_limit (mode_of old) [] (record old.now { schema = s }) sql None (CreateIndex at) out) has w.changed in
    let all = went (subst (λ o. AtPlace (λ t. Defines (mode_of old) (MakesIndex sql (record old.now { schema = schema }) t)) o out) it.found does) in
    let made = all.1 in
    let both : Ok made.index ≡ Ok index = sym made.defined ∙ it.defined in
    let same : made.index ≡ index = cc in
    let becomes : all.0.schema ≡ indexed schema table index = made.is ∙ ap (indexed schema table) same in
    let now : new.now ≡ all.0 = ap (λ (p : Tally × Database). p.1) (same_value all.2) in (
      ap (λ (d : Database). d.schema) now ∙ becomes,
      subst (λ (t : Trees). KeepsRows schema.tables old.now.trees t) (sym (ap (λ (d : Database). d.trees) now)) made.rows,
    )

pub has_none : (tree : List Row) → tree ≡ [] → HasRows tree []
has_none tree none = rw none (record { numbered = record { ints = tt; apart = λ id. omega arith }; same = IsPermutation-refl [] })
