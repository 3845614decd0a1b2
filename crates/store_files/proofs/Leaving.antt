-- What the two files hold of a store that is let go of.
use Rattle.std.proofs.Common.{◌≡◌, refl, sym, subst, ◌∙◌, arith, inr, IsTrue}
use Rattle.std.proofs.Math.Logic.{∥∥₁_map}
use Rattle.sqlite_disk.specs.declared.Disk.{Ghosts}
use Rattle.sqlite_disk.specs.declared.Files.{Files}
use Rattle.sqlite_wal.specs.Reads.{AreClean}
use Rattle.sqlite_wal.specs.Recovery.{Image}
use Rattle.sqlite_wal.specs.Files.{outcomes}
use Rattle.sqlite_wal.proofs.LogLemmas.{SeenMayStay}
use Rattle.sqlite_pool.proofs.StateLemmas.{clean_is, may_leave_is}
use Rattle.sqlite_trees.specs.Tree.{Trees}
use Rattle.sqlite_trees.specs.View.{IsClean, IsQuiet, IsRolledBack}
use Rattle.sqlite_trees.proofs.Doubt.{clean_of, no_doubt}
use Rattle.sqlite_catalog.specs.Listing.{IsSound}
use Rattle.sqlite_store.specs.declared.store.FileStore.{FileStore}
use Rattle.sqlite_store.specs.FileStore.{files, faults, is_shielded, recovers, state, view}
use Rattle.sqlite_store.specs.Laws.{settled_at}
use Rattle.sqlite.specs.Held.{AreDatabases, Held}
use Rattle.sqlite.specs.State.{State, IsLive}
use Rattle.sqlite.specs.Files.{HoldsDatabase, file_state}
use Rattle.sqlite.proofs.Theorems.{opens_again}
use Rattle.store_files.specs.LeftFiles.{AreLeftOpen, HoldsLeft, files_of}

-- a database is clean where its files are, and so are they
sure : {D : Type 0} {g : Ghosts D} (it : FileStore D g) → AreClean g (files it).0 (files it).1 → IsClean (view it)
sure it clean = no_doubt _ (clean_is it.pool ∙ clean)

both_sure : {D : Type 0} {g : Ghosts D} (it : FileStore D g) → IsClean (view it) → AreClean g (files it).0 (files it).1
both_sure it clean = sym (clean_is it.pool) ∙ clean_of _ clean

-- tables that an image holds, with the events that they keep
holding : (s : State) (image : Image) (trees : Trees) → s.may_leave trees → HoldsDatabase image trees → HoldsLeft s image
holding s image trees may holds = record {
  trees = trees;
  may = may;
  holds = ∣ holds ∣₁;
  keeps = λ events accepted keeps. record { accepted = accepted; trees = trees; holds = ∣ holds ∣₁; keeps = keeps };
  bare = λ none. inr ∣ (trees, holds, none) ∣₁;
}

-- Each image that a crash may leave of a database opens again, if its trees are numbered and what a crash may leave of it is sound.
module _ {D : Type 0} {g : Ghosts D} (stays : SeenMayStay g) (it : FileStore D g) (numbered : IsTrue (view it).is_numbered) (sound : AreDatabases (recovers it))
    (clean : AreClean g (files it).0 (files it).1) (s : State) (may_leave : (db : Trees) → recovers it db → s.may_leave db) where
  each : (image : Image) → (state it).may_leave image → ∥ HoldsLeft s image ∥₁
  each image may = ∥∥₁_map (opens_again it numbered sound image may) (λ db. holding s image db.0 (may_leave db.0 db.1) db.2)

  left_open : (ends : Files D) → (ends.log, ends.db) ≡ files it → AreLeftOpen g s ends
  left_open ends same =
      let all = λ (image : Image) (may : outcomes g ends.log ends.db image).
      each image (may_leave_is it.pool image clean (subst (λ p. outcomes g p.0 p.1 image) same may)) in
      record { seen = all _ (stays _, stays _); left = all }

-- ---- what the call answers

-- The connection that the store gave back is the store's own, and this is the database that it was given up for.
module _ {D : Type 0} {g : Ghosts D} (stays : SeenMayStay g) (own given : Held (FileStore D g)) (same : given ≡ own) (last : FileStore D g)
    (numbered : IsClean (view last) → IsTrue (view last).is_numbered) (sound : IsClean (view last) → AreDatabases (recovers last))
    (quiet : IsQuiet view faults recovers is_shielded given.store last) (ends : Files D) (closed : (ends.log, ends.db) ≡ files last) (honest : AreClean g ends.log ends.db) where
  clean : AreClean g (files last).0 (files last).1
  clean = subst (λ p. AreClean g p.0 p.1) closed honest

  none : IsClean (view last)
  none = sure last clean

  pub left_so : AreLeftOpen g (file_state own) ends
  left_so = subst (λ (c : Held (FileStore D g)). AreLeftOpen g (file_state c) ends) same (left_open stays last (numbered none) (sound none) clean (file_state given) quiet.outcomes ends closed)

  -- While it is open a crash leaves the last commit alone, which is sound.
  module _ (undone : IsRolledBack (view given.store) (view last)) (live : IsLive (file_state given)) (is_open : IsTrue (file_state own).is_open) where
    on : IsTrue (file_state given).is_open
    on = subst (λ (c : Held (FileStore D g)). IsTrue (file_state c).is_open) (sym same) is_open

    early : IsClean (view given.store)
    early = omega (arith, quiet.clean, none)

    settled : AreDatabases (recovers given.store)
    settled db may =
        let committed = (file_state given).committed in
        (committed.schema, subst (IsSound committed.schema) (sym (settled_at given.store stays db on may)) (live on).1)

    pub left_before : AreLeftOpen g (file_state own) (files_of own)
    left_before = subst (λ (c : Held (FileStore D g)). AreLeftOpen g (file_state c) (files_of c)) same
        (left_open stays given.store (sym undone.numbered ∙ numbered none) settled (both_sure given.store early) (file_state given) (λ db may. may) (files_of given) refl)
