-- The statements that make the tables of a store, one after another: SQL's rules refuse none of them.
use Rattle.std.proofs.Common.{◌≡◌, ℕ, true, List, [], length, IsTrue, refl, ap, arith}
use Rattle.sqlite.specs.Schema.{Schema}
use Rattle.sqlite.specs.State.{State, HasCleanDisk, Survives}
use Rattle.sqlite.specs.Table.{Table}
use Rattle.sqlite.specs.Listing.{understood}
use Rattle.sqlite.specs.declared.error.Error.{Error}
use Rattle.sqlite.proofs.Callers.{IsPlain, command_of}
use Rattle.sqlite_catalog.specs.Change.{created, indexed}
use Rattle.sqlite_schema.specs.declared.schema.Index.{Index}
use Rattle.sql_tables.specs.QueryAnswers.{HasRun}
use Rattle.sql_tables.specs.Causes.{IsCause, IsRefusedFor, RefusesToRun, TellsErrorCause}
use Rattle.sql_tables.proofs.InTurn.{unrefused}
use Rattle.sql_tables.proofs.Readable.{IsWhole}
use Rattle.sql_tables.proofs.Refused.{change_by, is_change, refused_cause}
use Rattle.sql_tables.proofs.Unrefused.{alone, index_unrefused, never_refused, table_unrefused}
use Rattle.sql_tables.specs.Columns.{no_schema}
use Rattle.store_tables.specs.Tables.{entry, entry_text, with_entry}
use Rattle.store_tables.specs.Steps.{AreTablesMade}
use Rattle.store_tables.proofs.Making.{with_index, with_table}
use Rattle.store_tables.proofs.Texts.{MakesIndex, MakesTable, makes_entry}

-- a statement without values, which changes the tables of this schema
pub record IsChanging (schema : Schema) (sql : List ℕ) : Type 0 where
  pub plain : IsPlain (understood schema sql)
  pub whole : IsWhole (understood schema sql) (length sql) 0
  pub changes : is_change (command_of (understood schema sql)) ≡ true

-- it is refused for a cause, where SQL's rules refuse it for none but one
pub cause_of : (schema : Schema) (sql : List ℕ) → IsChanging schema sql → (a b : State) (e : Error) → (IsTrue a.is_open → a.now.schema ≡ schema) → IsTrue a.in_transaction
    → (IsTrue a.is_open → IsRefusedFor a.step_limit (alone sql) a.now e → IsCause a b e) → RefusesToRun sql [] a b e → IsCause a b e
cause_of schema sql it a b e has inside ruled refused =
    unrefused (alone sql) a b e ruled (refused_cause schema sql [] a b has (change_by schema sql [] (understood schema sql) refl it.plain it.whole it.changes) e inside refused)

-- the tables that are there, where the disk returned what was written
abbrev pub IsMadeIf : Schema → State → Type 0
IsMadeIf schema s = HasCleanDisk s → AreTablesMade schema s

-- a connection that is open has these tables, and a transaction is under way
abbrev pub IsUnderWay : Schema → State → Type 0
IsUnderWay schema s = HasCleanDisk s → (IsTrue s.is_open → s.now.schema ≡ schema) × IsTrue s.in_transaction

pub under_way : (schema : Schema) (s : State) → IsMadeIf schema s → IsUnderWay schema s
under_way schema s made clean = (λ opened. (made clean).schema, (made clean).inside)

module _ {schema : Schema} {sql : List ℕ} {table : Table} (it : MakesTable schema sql table) (a b : State) (on : Survives a b (λ _. ⊥)) where
  earlier_table : HasCleanDisk b → HasCleanDisk a
  earlier_table clean = omega (arith, on.clean, clean)

  pub table_there : IsMadeIf schema a → (HasCleanDisk b → HasRun sql [] a b) → IsMadeIf (created schema table) b
  table_there made ran clean = let has = made (earlier_table clean) in with_table schema sql table it.making a b has.schema has.bare (ran clean)

  pub table_told : IsUnderWay schema a → (e : Error) → (HasCleanDisk b → RefusesToRun sql [] a b e) → TellsErrorCause a b e
  table_told way e refused clean =
      let has = way (earlier_table clean) in
      cause_of schema sql (record { plain = it.making.plain; whole = it.whole; changes = ap is_change it.making.command }) a b e has.0 has.1
      (λ opened ruled. absurd (never_refused a.step_limit (alone sql) a.now (table_unrefused schema sql table it.making it.makable a.now (has.0 opened) a.step_limit) e ruled)) (refused clean)

module _ {schema : Schema} {sql : List ℕ} {at : ℕ} {table : Table} {index : Index} (it : MakesIndex schema sql at table index) (a b : State) (on : Survives a b (λ _. ⊥)) (made : IsMadeIf schema a) where
  earlier_index : HasCleanDisk b → HasCleanDisk a
  earlier_index clean = omega (arith, on.clean, clean)

  pub index_there : (HasCleanDisk b → HasRun sql [] a b) → IsMadeIf (indexed schema table index) b
  index_there ran clean = with_index schema sql at table index it.indexing a b (made (earlier_index clean)) (ran clean)

  pub index_told : (e : Error) → (HasCleanDisk b → RefusesToRun sql [] a b e) → TellsErrorCause a b e
  index_told e refused clean =
      let has = made (earlier_index clean) in
      cause_of schema sql (record { plain = it.indexing.plain; whole = it.whole; changes = ap is_change it.indexing.command }) a b e (λ opened. has.schema) has.inside
      (λ opened ruled. absurd (never_refused a.step_limit (alone sql) a.now (index_unrefused schema sql at table index it.indexing it.indexable a.now has.schema has.bare a.step_limit) e ruled)) (refused clean)

-- the first table, of a connection that has none
pub first_there : (a b : State) → Survives a b (λ _. ⊥) → (HasCleanDisk a → IsTrue a.is_open → a.now.schema ≡ no_schema) → (HasCleanDisk b → HasRun entry_text [] a b) → IsMadeIf with_entry b
first_there a b on empty ran clean =
    let run = ran clean in
    with_table no_schema entry_text (record entry { tree = 0 }) makes_entry.making a b (empty (omega (arith, on.clean, clean)) run.was_open) tt run
