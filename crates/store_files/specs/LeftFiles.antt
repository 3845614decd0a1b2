-- What the files hold of a store whose process ends and does not close them.
use Rattle.std.specs.Prelude.{◌⊎◌, List, []}
use Rattle.sqlite_disk.specs.declared.Disk.{Ghosts}
use Rattle.sqlite_disk.specs.declared.Files.{Files}
use Rattle.sqlite_wal.specs.Recovery.{Image}
use Rattle.sqlite_wal.specs.Files.{outcomes}
use Rattle.sqlite_trees.specs.Tree.{Trees}
use Rattle.sqlite_store.specs.declared.store.FileStore.{FileStore}
use Rattle.sqlite_store.specs.FileStore as database
use Rattle.sqlite.specs.Held.{Held}
use Rattle.sqlite.specs.State.{State, HasCleanDisk}
use Rattle.sqlite.specs.Files.{HoldsDatabase, file_state, image_of}
use Rattle.journal_model.specs.Event.{Event}
use Rattle.journal_model.specs.Cause.{IsAccepted}
use Rattle.store_live.specs.Attempts.{ByInvocation}
use Rattle.journal_store.specs.StoreStanding.{KeepsAll, Outlasts, Stands}
use Rattle.store_files.specs.Files.{KeepsEvents, IsBare, ListsNone}
use Rattle.store_files.specs.TakenFiles.{IsOpenedOver, AreFilesTaken}

-- The two files hold tables that a crash may leave of this database, and so they keep all accepted events that these tables keep.
pub record HoldsLeft (it : State) (image : Image) : Type 0 where
  pub trees : Trees
  pub may : it.may_leave trees
  pub holds : ∥ HoldsDatabase image trees ∥₁
  pub keeps : (events : List Event) → IsAccepted events → KeepsAll events trees → KeepsEvents events image
  pub bare : ListsNone trees → IsBare image

-- so it is as the two files read, which is what the end of a process leaves, and whatever a crash leaves of them
pub record AreLeftOpen {D : Type 0} (g : Ghosts D) (it : State) (files : Files D) : Type 0 where
  pub seen : ∥ HoldsLeft it (image_of g files) ∥₁
  pub left : (image : Image) → outcomes g files.log files.db image → ∥ HoldsLeft it image ∥₁

-- the files of a connection
abbrev pub files_of : {D : Type 0} {g : Ghosts D} → Held (FileStore D g) → Files D
files_of c = record { log = (database.files c.store).0; db = (database.files c.store).1 }

-- ---- what an opened store leaves

-- whatever events the files kept, what a crash leaves of the store that was opened over them keeps these too
abbrev pub OpenedKeep : {D : Type 0} → Ghosts D → Type 0
OpenedKeep {D} g = (image : Image) (c : Held (FileStore D g)) → IsOpenedOver image c → HasCleanDisk (file_state c)
    → (events : List Event) → KeepsEvents events image → Outlasts events (file_state c)

-- where they kept no table, a crash leaves none, or the tables of a store of no events
abbrev pub OpenedKeepNone : {D : Type 0} → Ghosts D → Type 0
OpenedKeepNone {D} g = (image : Image) (c : Held (FileStore D g)) → IsOpenedOver image c → HasCleanDisk (file_state c)
    → IsBare image → (trees : Trees) → (file_state c).may_leave trees → ListsNone trees ⊎ KeepsAll [] trees

-- and a store that is opened over such files stands for no events
abbrev pub BareStandForNone : {D : Type 0} → Ghosts D → Type 0
BareStandForNone {D} g = (image : Image) (c : Held (FileStore D g)) (attempts : ByInvocation) → AreFilesTaken image (file_state c) attempts
    → IsBare image → Stands [] (file_state c) attempts
