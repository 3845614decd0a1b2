-- What a file holds of accepted events.
use Rattle.std.specs.Prelude.{◌≡◌, ◌⊎◌, List, []}
use Rattle.sqlite_disk.specs.declared.Disk.{Ghosts}
use Rattle.sqlite_disk.specs.declared.Files.{Files}
use Rattle.sqlite_wal.specs.Recovery.{Image}
use Rattle.sqlite_wal.specs.Files.{outcomes}
use Rattle.sqlite_trees.specs.Tree.{Trees}
use Rattle.sqlite_trees.specs.Objects.{catalog_tree}
use Rattle.sqlite.specs.Files.{HoldsDatabase, image_of}
use Rattle.journal_model.specs.Event.{Event}
use Rattle.journal_model.specs.Cause.{IsAccepted}
use Rattle.journal_store.specs.StoreStanding.{KeepsAll}

-- the file is absent, or empty
abbrev pub IsNoFile : Image → Type 0
IsNoFile image = image.db ≡ []

abbrev pub ListsNone : Trees → Type 0
ListsNone trees = trees catalog_tree ≡ []

-- so it is, or the file and its log hold a database of no table
abbrev pub IsBare : Image → Type 0
IsBare image = IsNoFile image ⊎ ∥ ((trees : Trees) × HoldsDatabase image trees × ListsNone trees) ∥₁

-- the file and its log hold a database whose tables keep these events
pub record KeepsEvents (events : List Event) (image : Image) : Type 0 where
  pub accepted : IsAccepted events
  pub trees : Trees
  pub holds : ∥ HoldsDatabase image trees ∥₁
  pub keeps : KeepsAll events trees

-- the same, and so does the file alone, without its log
pub record KeepsAlone (events : List Event) (image : Image) : Type 0 where
  pub both : KeepsEvents events image
  pub alone : KeepsEvents events (record image { log = [] })

-- so it is as the two files read, and whatever a crash leaves of them
pub record AreLeft {D : Type 0} (g : Ghosts D) (events : List Event) (files : Files D) : Type 0 where
  pub seen : KeepsAlone events (image_of g files)
  pub left : (image : Image) → outcomes g files.log files.db image → KeepsAlone events image
