-- Which databases are taken for a store's, and what opening one leaves.
use Rattle.std.specs.Prelude.{◌≡◌, ◌≢◌, ◌⊎◌, true, false, [], IsTrue}
use Rattle.sqlite_trees.specs.Tree.{Trees}
use Rattle.sqlite.specs.State.{State, Survives}
use Rattle.sql_tables.specs.QueryAnswers.{AreTablesKept}
use Rattle.sql_tables.specs.Columns.{no_schema}
use Rattle.store_tables.specs.Records.{Records, Holds, IsMarked}
use Rattle.store_tables.specs.Tables.{store_schema}
use Rattle.store_refusals.specs.declared.refusal.Refusal.{Refusal}
use Rattle.store_refusals.specs.declared.refusal.Refusal.TheVariants.{ForeignRow}
use Rattle.store_refusals.specs.RefusalConditions.{is_circumstance}
use Rattle.journal_store.specs.StoreStanding.{KeepsAll}

-- no transaction is under way, and the database has no tables or those of a store, with its mark
pub record CanBeTaken (s : State) : Type 0 where
  pub idle : s.in_transaction ≡ false
  pub tables : s.now.schema ≢ no_schema → (s.now.schema ≡ store_schema) × IsMarked s.now.trees

-- a transaction is under way, or there are other tables, or rows that are no store's
abbrev pub IsForeign : State → Type 0
IsForeign s = (s.in_transaction ≡ true) ⊎ ((s.now.schema ≢ no_schema) × (s.now.schema ≡ store_schema → (r : Records) → Holds s.now.trees r → ⊥))

abbrev pub IsNotTaken : State → Refusal → Type 0
IsNotTaken s why = ((why ≡ ForeignRow) × IsForeign s) ⊎ IsTrue (is_circumstance why)

-- the one commit: a database without tables is given those of a store, which keep what is kept of no events
abbrev pub MakesTables : State → Trees → Type 0
MakesTables s trees = (s.now.schema ≡ no_schema) × KeepsAll [] trees

-- the connection as it comes back
pub record ComesBack (old new : State) : Type 0 where
  pub kept : AreTablesKept old new
  pub mode : new.in_transaction ≡ old.in_transaction
  pub survives : Survives old new (MakesTables old)
