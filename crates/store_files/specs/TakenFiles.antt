-- Which files are taken for a store's, and what the store stands for then.
use Rattle.std.specs.Prelude.{◌≡◌, ◌⊎◌, List, []}
use Rattle.sqlite_disk.specs.declared.Disk.{Ghosts}
use Rattle.sqlite_wal.specs.Recovery.{Image}
use Rattle.sqlite_trees.specs.Tree.{Trees}
use Rattle.sqlite_catalog.specs.Listing.{IsSound}
use Rattle.sqlite_store.specs.declared.store.FileStore.{FileStore}
use Rattle.sqlite.specs.Held.{Held}
use Rattle.sqlite.specs.State.{State, HasCleanDisk, Survives}
use Rattle.sqlite.specs.Start.{FindsIn}
use Rattle.sqlite.specs.Files.{AreFoundIn, HoldsDatabase, IsOpened, file_state}
use Rattle.journal_model.specs.Event.{Event}
use Rattle.journal_model.specs.Cause.{IsAccepted, after_open}
use Rattle.sql_tables.specs.Columns.{no_schema}
use Rattle.store_tables.specs.Records.{IsMarked}
use Rattle.store_tables.specs.Tables.{store_schema}
use Rattle.store_live.specs.Attempts.{ByInvocation}
use Rattle.journal_store.specs.OpeningConditions.{MakesTables}
use Rattle.journal_store.specs.StoreStanding.{KeepsAll, Stands}

-- no table was found, and the store stands for no event
abbrev pub IsMadeNew : Trees → State → ByInvocation → Type 0
IsMadeNew trees database attempts = IsSound no_schema trees × Stands [] database attempts

-- the tables of a store were found, with its mark, and the store stands for the events that they keep, with every attempt stopped
abbrev pub IsFoundAgain : Trees → State → ByInvocation → Type 0
IsFoundAgain trees database attempts =
    IsSound store_schema trees × IsMarked trees × ((events : List Event) → IsAccepted events → KeepsAll events trees → Stands (after_open events) database attempts)

-- what was found in the files, and what the store stands for then
pub record AreFilesTaken (image : Image) (database : State) (attempts : ByInvocation) : Type 0 where
  pub trees : Trees
  pub found : AreFoundIn image trees
  pub holds : (db : Trees) → ∥ HoldsDatabase image db ∥₁ → trees ≡ db
  pub is : IsMadeNew trees database attempts ⊎ IsFoundAgain trees database attempts

module _ {D : Type 0} {g : Ghosts D} where
  -- a connection as it was opened over files that held this
  pub record WasOpened (image : Image) (connection : Held (FileStore D g)) : Type 0 where
    pub opened : HasCleanDisk (file_state connection) → IsOpened connection
    pub found : HasCleanDisk (file_state connection) → FindsIn image (file_state connection)

  -- of such a connection a crash leaves what it left when it was opened, or, where no table was found, the tables of a store of no event
  pub record IsOpenedOver (image : Image) (connection : Held (FileStore D g)) : Type 0 where
    pub was : Held (FileStore D g)
    pub opened : WasOpened image was
    pub crash : Survives (file_state was) (file_state connection) (MakesTables (file_state was))
