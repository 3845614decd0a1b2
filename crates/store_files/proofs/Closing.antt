-- What is left of a store that is closed.
use Rattle.std.proofs.Common.{◌≡◌, ◌⊎◌, true, ap, subst, inl, List, IsTrue, Result, Ok, Err, IfOk, IfErr}
use Rattle.sqlite_disk.specs.declared.Disk.{Ghosts}
use Rattle.sqlite_disk.specs.declared.Files.{Files}
use Rattle.sqlite_wal.specs.Reads.{AreClean}
use Rattle.sqlite_wal.specs.Recovery.{Image}
use Rattle.sqlite_trees.specs.Tree.{Trees}
use Rattle.sqlite_trees.specs.View.{IsClean}
use Rattle.sqlite_store.specs.declared.store.FileStore.{FileStore}
use Rattle.sqlite_store.specs.FileStore.{view}
use Rattle.sqlite.specs.declared.error.Error.{Error}
use Rattle.sqlite.specs.Held.{Held}
use Rattle.sqlite.specs.State.{State, HasCleanDisk}
use Rattle.sqlite.specs.Files.{file_state, FailsToClose, IsClosed}
use Rattle.sqlite.specs.Closing.{HoldsAlone, IsCopied}
use Rattle.journal_model.specs.Event.{Event}
use Rattle.journal_model.specs.Cause.{IsAccepted}
use Rattle.store_live.specs.Attempts.{ByInvocation}
use Rattle.journal_store.specs.StoreStanding.{KeepsAll, Stands}
use Rattle.store_files.specs.Files.{AreLeft, KeepsAlone}

-- what was committed keeps the events, where nothing else is under way
committed : (events : List Event) (s : State) (attempts : ByInvocation) → Stands events s attempts → HasCleanDisk s → IsTrue s.is_open → s.now ≡ s.committed
    → KeepsAll events s.committed.trees
committed events s attempts stands clean is_open same =
    let keeps = stands.kept.keeps clean is_open in
    subst (λ (t : Trees). KeepsAll events t) (ap (λ db. db.trees) same) (record { read = stands.kept.read; records = keeps.records; held = keeps.held; kept = keeps.kept })

alone : (events : List Event) (image : Image) (trees : Trees) → IsAccepted events → KeepsAll events trees → HoldsAlone image trees → KeepsAlone events image
alone events image trees accepted keeps held = record {
  both = record { accepted = accepted; trees = trees; holds = held.both; keeps = keeps };
  alone = record { accepted = accepted; trees = trees; holds = held.alone; keeps = keeps };
}

pub are_left : {D : Type 0} {g : Ghosts D} (events : List Event) (c : Held (FileStore D g)) (files : Files D) (attempts : ByInvocation)
    → (IsTrue (file_state c).is_open → (file_state c).now ≡ (file_state c).committed) → IsCopied c files → Stands events (file_state c) attempts → AreLeft g events files
are_left events c files attempts idle copied stands =
    let keeps = committed events (file_state c) attempts stands copied.was_clean copied.was_open (idle copied.was_open) in
    record {
      seen = alone events _ _ stands.kept.accepted keeps copied.seen;
      left = λ image may. alone events image _ stands.kept.accepted keeps (copied.left image may);
    }

-- ---- what the call answers

-- The connection that the store gave back is the store's own.
module _ {D : Type 0} {g : Ghosts D} (own given : Held (FileStore D g)) (same : given ≡ own) where
  pub left_so : (attempts : ByInvocation) (result : Result (Files D) (Error × FileStore D g)) → (IsTrue (file_state given).is_open → (file_state given).now ≡ (file_state given).committed)
      → IfOk result (λ files. AreClean g files.log files.db → IsCopied given files)
      → IfOk result (λ files. AreClean g files.log files.db → (events : List Event) → Stands events (file_state own) attempts → AreLeft g events files)
  left_so attempts (Ok files) idle copied = λ clean events stands.
      are_left events own files attempts (subst (λ (c : Held (FileStore D g)). IsTrue (file_state c).is_open → (file_state c).now ≡ (file_state c).committed) same idle)
      (subst (λ (c : Held (FileStore D g)). IsCopied c files) same (copied clean)) stands
  left_so attempts (Err e) idle copied = tt

  pub closed_so : (result : Result (Files D) (Error × FileStore D g)) → IfErr result (λ e. IsClosed given e.1 × (IsClean (view e.1) → FailsToClose given e.1 e.0))
      → IfErr result (λ e. IsClosed own e.1)
  closed_so (Ok files) failed = tt
  closed_so (Err e) failed = subst (λ (c : Held (FileStore D g)). IsClosed c e.1) same failed.0

  pub fails_so : (result : Result (Files D) (Error × FileStore D g)) → IfErr result (λ e. IsClosed given e.1 × (IsClean (view e.1) → FailsToClose given e.1 e.0))
      → IfErr result (λ e. IsClean (view e.1) → FailsToClose own e.1 e.0 ⊎ (own.in_transaction ≡ true))
  fails_so (Ok files) failed = tt
  fails_so (Err e) failed = λ clean. inl (subst (λ (c : Held (FileStore D g)). FailsToClose c e.1 e.0) same (failed.1 clean))
