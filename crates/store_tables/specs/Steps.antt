-- What a call does to the records.
use Rattle.std.specs.Prelude.{◌≡◌, List, [], Result, Ok, Err, IfErr, OnOk, IsTrue}
use Rattle.std.specs.List.{AllByRecursion}
use Rattle.sqlite.specs.Schema.{Schema}
use Rattle.sqlite_trees.specs.Tree.{Trees}
use Rattle.sqlite_trees.specs.declared.store.Store.{Ghosts}
use Rattle.sqlite.specs.Held.{Held, state}
use Rattle.sqlite.specs.declared.error.Error.{Error}
use Rattle.sqlite.specs.State.{State, HasCleanDisk, KeepsCommit, Survives}
use Rattle.sql_tables.specs.Causes.{AreMade, Statement, TellsWriteCause}
use Rattle.sql_tables.specs.declared.read.ReadError.{ReadError}
use Rattle.sql_tables.specs.declared.read.ReadError.TheVariants.{Foreign}
use Rattle.store_tables.specs.Records.{Records, Write, Holds, applied_all}
use Rattle.store_tables.specs.Tables.{store_schema}

-- whatever records the tables had, they have the changed ones then
abbrev pub TurnsRecords : (Records → Records) → Trees → Trees → Type 0
TurnsRecords change old new = (r : Records) → Holds old r → Holds new (change r)

-- inside a transaction these statements change the records so
pub record ChangesRecords (change : Records → Records) (statements : List Statement) (old new : State) : Type 0 where
  pub was_open : IsTrue old.is_open
  pub schema : new.now.schema ≡ store_schema
  pub inside : IsTrue new.in_transaction
  pub records : TurnsRecords change old.now.trees new.now.trees
  pub made : AreMade old.step_limit statements old.now new.now

-- inside a transaction these statements change the records so, or one of them is refused; until the commit, a crash knows nothing of it
pub record Alters {S : Type 0} (g : Ghosts S) (change : Records → Records) (statements : List Statement) (old new : Held S) (result : Result (Unit {0}) Error) : Type 0 where
  pub done : HasCleanDisk (state g new) → OnOk result (ChangesRecords change statements (state g old) (state g new))
  pub why : IfErr result (TellsWriteCause statements (state g old) (state g new))
  pub kept : HasCleanDisk (state g new) → KeepsCommit (state g old) (state g new)
  pub survives : Survives (state g old) (state g new) (λ _. ⊥)

-- a connection that is open has the tables of a store; one that is shut says nothing
abbrev pub IsStore : State → Type 0
IsStore s = HasCleanDisk s → IsTrue s.is_open → s.now.schema ≡ store_schema

-- the same, inside a transaction
abbrev pub IsWriting : State → Type 0
IsWriting s = IsStore s × (HasCleanDisk s → IsTrue s.in_transaction)

-- these tables are just made, inside a transaction: they have no rows
pub record AreTablesMade (whole : Schema) (s : State) : Type 0 where
  pub schema : s.now.schema ≡ whole
  pub inside : IsTrue s.in_transaction
  pub bare : AllByRecursion (λ t. s.now.trees t.tree ≡ []) whole.tables

-- the connection was open, and the records are changed so
abbrev pub Lands : List Write → State → Trees → Type 0
Lands writes old trees = IsTrue old.is_open × TurnsRecords (applied_all writes) old.now.trees trees

-- a question that was answered, or that met a foreign row, was asked of an open connection
abbrev pub WasAsked : {A : Type 0} → Result A ReadError → State → Type 0
WasAsked (Ok found) s = IsTrue s.is_open
WasAsked (Err e) s = e ≡ Foreign → IsTrue s.is_open
