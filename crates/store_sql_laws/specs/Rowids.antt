-- SQL's rules refuse no write of a store for a rowid that is taken.
use Rattle.std.specs.Prelude.{◌≡◌, ℕ, false, List, Option}
use Rattle.std.specs.List.{AllByRecursion}
use Rattle.sqlite_trees.specs.Tree.{Trees}
use Rattle.sqlite_trees.specs.View.{IsShaped}
use Rattle.sqlite_trees.specs.declared.store.Shape.TheVariants as shape
use Rattle.sqlite_trees.specs.declared.store.Store.{Ghosts}
use Rattle.sqlite_schema.specs.declared.schema.Constraint.TheVariants.{PrimaryKey}
use Rattle.sqlite.specs.declared.error.Error.{Error}
use Rattle.sqlite.specs.declared.error.Error.TheVariants.{SqliteFailure}
use Rattle.sqlite.specs.declared.error.ErrorCode.TheVariants as code
use Rattle.sqlite.specs.Effect.{Database, IsDatabase}
use Rattle.sqlite.specs.Held.{Held, state}
use Rattle.sql_tables.specs.Causes.{AreRefused}
use Rattle.store_tables.specs.Tables.{store_schema}
use Rattle.store_tables.specs.Records.{Holds, Records}
use Rattle.store_tables.specs.declared.row.Write.{Write}
use Rattle.store_tables.specs.Statements.{statements_of_all}

-- the rows of each table ascend by their rowids, which are integers
abbrev pub TablesAscend : Trees → Type 0
TablesAscend db = AllByRecursion (λ t. IsShaped shape.Table (db t.tree)) store_schema.tables

-- So they do in the store of a connection, where no failure has broken it.
abbrev pub UnbrokenAscend : {S : Type 0} → Ghosts S → Type 0
UnbrokenAscend {S} g = (held : Held S) → (g.view held.store).is_broken ≡ false → IsDatabase (state g held).now → (state g held).now.schema ≡ store_schema → TablesAscend (state g held).now.trees

-- a rowid that is taken
abbrev pub rowid_taken : Error
rowid_taken = SqliteFailure (code.ConstraintViolation PrimaryKey)

-- over such tables no write is refused for a rowid that is taken
abbrev pub NoRowidIsTaken : Type 0
NoRowidIsTaken =
    (limit : Option ℕ) (writes : List Write) (before : Database) (records : Records) → before.schema ≡ store_schema → Holds before.trees records → TablesAscend before.trees
    → AreRefused limit (statements_of_all writes) before rowid_taken → ⊥
