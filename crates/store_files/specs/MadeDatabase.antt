-- A database that was just made in files that lie in memory.
use Rattle.std.specs.Prelude.{◌≡◌, false, [], None, IsTrue}
use Rattle.sqlite_disk.specs.declared.Disk.{Ghosts}
use Rattle.sqlite_trees.specs.Objects.{catalog_tree}
use Rattle.sqlite_trees.specs.View.{IsClean}
use Rattle.sqlite_store.specs.declared.store.FileStore.{FileStore}
use Rattle.sqlite_store.specs.FileStore.{view}
use Rattle.sqlite.specs.declared.error.Error.{Error}
use Rattle.sqlite.specs.State.{State, HasCleanDisk}
use Rattle.sqlite.specs.Steps.{IsFresh}
use Rattle.sqlite.specs.Opening.{is_open_error}
use Rattle.sql_tables.specs.Columns.{no_schema}
use Rattle.store_refusals.specs.declared.refusal.Refusal.{Refusal}
use Rattle.store_refusals.specs.declared.refusal.Refusal.TheVariants.{StatementRefused}

module _ {D : Type 0} {g : Ghosts D} where
  -- its disk is clean, and it lists no table
  pub record IsMadeEmpty (database : FileStore D g) : Type 0 where
    pub clean : IsClean (view database)
    pub fresh : IsFresh (view database)
    pub unlisted : (view database).trees catalog_tree ≡ []

-- a connection to it, as it was opened
pub record IsEmptyAndIdle (s : State) : Type 0 where
  pub clean : HasCleanDisk s
  pub none : s.now.schema ≡ no_schema
  pub idle : s.in_transaction ≡ false
  pub unlimited : s.step_limit ≡ None

-- where the database refused something, it was for an error of opening one
abbrev pub TellsUnmade : Refusal → Type 0
TellsUnmade why = (cause : Error) → why ≡ StatementRefused cause → IsTrue (is_open_error cause)
