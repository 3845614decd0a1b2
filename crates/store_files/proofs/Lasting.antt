-- What a crash leaves of a store that was opened over files.
use Rattle.std.proofs.Common.{◌≡◌, ◌⊎◌, sym, ap, subst, ◌∙◌, arith, inl, inr, List, [], ◌∷◌, length, map}
use Rattle.std.proofs.Math.Logic.{∥∥₁_elim}
use Rattle.std.proofs.lemmas.List.Sorted.{length_permutation}
use Rattle.sqlite_disk.specs.declared.Disk.{Ghosts}
use Rattle.sqlite_wal.specs.Recovery.{Image}
use Rattle.sqlite_wal.proofs.LogLemmas.{SeenMayStay}
use Rattle.sqlite_trees.specs.Tree.{Trees}
use Rattle.sqlite_trees.specs.Objects.{catalog_tree}
use Rattle.sqlite_trees.specs.Props.{Trees-set, rows_set}
use Rattle.sqlite_value.specs.Order.{Row, column}
use Rattle.sqlite_store.specs.declared.store.FileStore.{FileStore}
use Rattle.sqlite_store.specs.Laws.{settled_at}
use Rattle.sqlite.specs.Held.{Held}
use Rattle.sqlite.specs.State.{State, HasCleanDisk, IsLive, Opens}
use Rattle.sqlite.specs.Start.{FindsIn}
use Rattle.sqlite.specs.Files.{AreFoundIn, HoldsDatabase, file_state}
use Rattle.journal_model.specs.Event.{Event}
use Rattle.store_tables.specs.Records.{IsMarked, mark_cells}
use Rattle.store_live.specs.Attempts.{ByInvocation}
use Rattle.journal_store.specs.StoreStanding.{KeepsAll, Outlasts, Stands}
use Rattle.store_files.specs.Files.{IsBare, KeepsEvents, ListsNone}
use Rattle.store_files.specs.LeftFiles.{BareStandForNone, OpenedKeep, OpenedKeepNone}
use Rattle.store_files.specs.TakenFiles.{IsOpenedOver, AreFilesTaken}
use Rattle.store_files.proofs.Finding.{finds_some, found_empty}
use Rattle.store_files.proofs.Opening.{was_clean}

-- where no table was kept, none is found
none_listed : (image : Image) (trees : Trees) → AreFoundIn image trees → ((db : Trees) → HoldsDatabase image db → trees ≡ db) → IsBare image → ListsNone trees
none_listed image trees found holds (inl none) = elim found [
  | inl held ↦ absurd (omega (arith, held.3.found.present, ap length none))
  | inr nothing ↦ nothing.1.1
]
none_listed image trees found holds (inr some) = ∥∥₁_elim some (rows_set _ _) (λ it. ap (λ (t : Trees). t catalog_tree) (holds it.0 it.1) ∙ it.2)

-- and no mark
unmarked : (trees : Trees) → IsMarked trees → trees 3 ≡ [] → ⊥
unmarked trees mark none =
    let cells = λ (r : Row). column r 1 ∷ column r 2 ∷ [] in
    let one = length_permutation (map cells (trees 3)) (mark_cells ∷ []) mark ∙ ap (λ (rows : List Row). length (map cells rows)) none in
    omega (arith, one)

bare_stands : (image : Image) (s : State) (attempts : ByInvocation) → AreFilesTaken image s attempts → IsBare image → Stands [] s attempts
bare_stands image s attempts taken bare = elim taken.is [
  | inl new ↦ new.1
  | inr again ↦
      let empty = none_listed image taken.trees taken.found (λ db holds. taken.holds db ∣ holds ∣₁) bare in
      absurd (unmarked taken.trees again.1 (found_empty image taken.trees taken.found empty))
]

-- The store, and the connection that was opened first.
module _ {D : Type 0} {g : Ghosts D} (stays : SeenMayStay g) (image : Image) (c : Held (FileStore D g)) (over : IsOpenedOver image c) (clean : HasCleanDisk (file_state c)) where
  abbrev was : Held (FileStore D g)
  was = over.was

  before : HasCleanDisk (file_state was)
  before = was_clean (file_state was) (file_state c) _ over.crash clean

  found : FindsIn image (file_state was)
  found = over.opened.found before

  opens : Opens (file_state was)
  opens = (over.opened.opened before).0

  live : IsLive (file_state was)
  live = (over.opened.opened before).1

  settled : (trees : Trees) → (file_state was).may_leave trees → trees ≡ (file_state was).committed.trees
  settled trees may = settled_at was.store stays trees opens.is_open may

  keep : (events : List Event) → KeepsEvents events image → Outlasts events (file_state c)
  keep events keeps trees may =
      let same : (file_state was).committed.trees ≡ keeps.trees = ∥∥₁_elim keeps.holds (Trees-set _ _) (found.holds keeps.trees) in
      let kept = subst (KeepsAll events) (sym same) keeps.keeps in
      elim (over.crash.crash clean trees may) [
        | inl earlier ↦ subst (KeepsAll events) (sym (settled trees earlier)) kept
        | inr made ↦
            let now = ap (λ db. db.trees) opens.clean in
            absurd (finds_some image events (file_state was).now.schema (file_state was).now.trees (subst (AreFoundIn image) (sym now) found.reads) (subst (KeepsAll events) (sym now) kept)
            (live opens.is_open).0 made.0)
      ]

  keep_none : IsBare image → (trees : Trees) → (file_state c).may_leave trees → ListsNone trees ⊎ KeepsAll [] trees
  keep_none bare trees may = elim (over.crash.crash clean trees may) [
    | inl earlier ↦ inl (ap (λ (t : Trees). t catalog_tree) (settled trees earlier) ∙ none_listed image (file_state was).committed.trees found.reads found.holds bare)
    | inr made ↦ inr made.1
  ]

-- ---- the laws

pub opened_keep : {D : Type 0} (g : Ghosts D) → SeenMayStay g → OpenedKeep g
opened_keep g stays image c over clean = keep stays image c over clean

pub opened_keep_none : {D : Type 0} (g : Ghosts D) → SeenMayStay g → OpenedKeepNone g
opened_keep_none g stays image c over clean = keep_none stays image c over clean

pub bare_stand : {D : Type 0} (g : Ghosts D) → BareStandForNone g
bare_stand g image c = bare_stands image (file_state c)
