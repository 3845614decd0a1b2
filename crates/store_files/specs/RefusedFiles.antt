-- Why a file is not taken, and what is left of it.
use Rattle.std.specs.Prelude.{◌≡◌, ◌⊎◌, Option, None, IfSome, IsTrue}
use Rattle.sqlite_disk.specs.declared.Disk.{Ghosts}
use Rattle.sqlite_disk.specs.declared.Files.{Files}
use Rattle.sqlite_wal.specs.Recovery.{Image}
use Rattle.sqlite_wal.specs.Files.{outcomes}
use Rattle.sqlite_trees.specs.Tree.{Trees}
use Rattle.sqlite_store.specs.declared.store.FileStore.{FileStore}
use Rattle.sqlite.specs.declared.error.Error.{Error}
use Rattle.sqlite.specs.declared.error.Error.TheVariants.{SqliteFailure}
use Rattle.sqlite.specs.declared.error.ErrorCode.TheVariants.{CannotOpen, DatabaseBusy, OutOfMemory}
use Rattle.sqlite.specs.declared.file.Leftover.{Leftover}
use Rattle.sqlite.specs.Held.{Held}
use Rattle.sqlite.specs.State.{HasCleanDisk}
use Rattle.sqlite.specs.Opening.{is_open_error}
use Rattle.sqlite.specs.Files.{AreFoundIn, FailsToOpenFiles, IsCleanLeft, LeavesFiles, file_state, image_of}
use Rattle.store_refusals.specs.declared.refusal.Refusal.{Refusal}
use Rattle.store_refusals.specs.declared.refusal.Refusal.TheVariants.{ForeignRow}
use Rattle.store_refusals.specs.Causes.{TellsCause}
use Rattle.journal_store.specs.OpeningConditions.{ComesBack, IsNotTaken}
use Rattle.store_files.specs.TakenFiles.{WasOpened}

-- the system gave no files
abbrev pub IsUngiven : Error → Type 0
IsUngiven e = (e ≡ SqliteFailure CannotOpen) ⊎ ((e ≡ SqliteFailure OutOfMemory) ⊎ (e ≡ SqliteFailure DatabaseBusy))

-- the two files as the system gave them: they read so, and a crash leaves nothing else
pub record AreGiven {D : Type 0} (g : Ghosts D) (image : Image) (files : Files D) : Type 0 where
  pub read : image_of g files ≡ image
  pub left : (other : Image) → outcomes g files.log files.db other → other ≡ image

module _ {D : Type 0} {g : Ghosts D} where
  -- The system gave the files, and no database was opened in them. What a crash leaves of them is what was given, or stands for the
  -- same, unless they held no database yet (`LeavesFiles`).
  pub record IsGivenBack (image : Image) (error : Error) (rest : Leftover D g) : Type 0 where
    pub files : Files D
    pub given : AreGiven g image files
    pub cause : IsCleanLeft rest → FailsToOpenFiles files rest error
    pub left : IsCleanLeft rest → LeavesFiles files rest

  pub record IsUnopened (image : Image) (error : Error) (rest : Option (Leftover D g)) : Type 0 where
    pub named : IsTrue (is_open_error error)
    pub none : rest ≡ None → IsUngiven error
    pub some : IfSome rest (IsGivenBack image error)

  -- A connection was opened over the files, and what it found is no store's, or it refused a statement, for a cause that is told. Its
  -- tables are those that were found. Where they are no store's, a crash leaves nothing that it did not leave before.
  pub record IsNoStore (image : Image) (connection : Held (FileStore D g)) (why : Refusal) : Type 0 where
    pub was : Held (FileStore D g)
    pub opened : WasOpened image was
    pub back : ComesBack (file_state was) (file_state connection)
    pub cause : HasCleanDisk (file_state connection) → IsNotTaken (file_state was) why
    pub told : TellsCause (file_state was) (file_state connection) why
    pub seen : HasCleanDisk (file_state connection) → IsTrue (file_state connection).is_open → AreFoundIn image (file_state connection).now.trees
    pub spared : HasCleanDisk (file_state connection) → why ≡ ForeignRow → (trees : Trees) → (file_state connection).may_leave trees → (file_state was).may_leave trees
