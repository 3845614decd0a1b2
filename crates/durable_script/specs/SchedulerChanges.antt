-- What becomes of a scheduler, said of what it stands for.
use Rattle.std.specs.Prelude.{◌≡◌, ◌⊎◌}
use Rattle.sqlite_trees.specs.declared.store.Store.{Ghosts}
use Rattle.sqlite_trees.specs.Tree.{Trees}
use Rattle.sqlite.specs.State.{HasCleanDisk, Survives}
use Rattle.sqlite.specs.Held.{state}
use Rattle.built_in_handlers.specs.declared.built_in.BuiltIn.{BuiltIn}
use Rattle.vm_types.specs.Options.{default_options}
use Rattle.journal_store.specs.StoreStanding.{KeepsAll}
use Rattle.scheduler.specs.declared.scheduler.Scheduler.{Scheduler}
use Rattle.scheduler.specs.SchedulerCalls.{IsScheduled}
use Rattle.durable_schedule.specs.Schedules.{Scheduled}

module _ {S : Type 0} (g : Ghosts S) where
  -- it has the default options, and stands for this
  pub record IsAt (s : Scheduled BuiltIn) (scheduler : Scheduler BuiltIn S) : Type 0 where
    pub options : scheduler.options ≡ default_options
    pub scheduled : IsScheduled g s scheduler

  -- the tables keep the events of something that is cut off so from what it stood for, whatever that was
  abbrev pub KeepsCut : (Scheduled BuiltIn → Scheduled BuiltIn → Type 0) → Scheduler BuiltIn S → Trees → Type 0
  KeepsCut Cut scheduler trees = (before : Scheduled BuiltIn) → IsAt before scheduler → (after : Scheduled BuiltIn) × Cut before after × KeepsAll after.standing.events trees

  -- What a crash leaves is what it left before, or such tables.
  abbrev pub LeavesCut : (Scheduled BuiltIn → Scheduled BuiltIn → Type 0) → Scheduler BuiltIn S → Scheduler BuiltIn S → Type 0
  LeavesCut Cut old new = Survives (state g old.store.connection) (state g new.store.connection) (KeepsCut Cut old)

  -- Whatever it stood for, it stands for something in this relation to it then, if the disk returned what was written; and what a
  -- crash leaves is cut off so.
  pub record Reaches (Cut Relation : Scheduled BuiltIn → Scheduled BuiltIn → Type 0) (old new : Scheduler BuiltIn S) : Type 0 where
    pub leaves : LeavesCut Cut old new
    pub reaches : HasCleanDisk (state g new.store.connection) → (before : Scheduled BuiltIn) → IsAt before old → (after : Scheduled BuiltIn) × IsAt after new × Relation before after

  -- Whatever a crash leaves from now on: what it could leave before, if this holds; or tables that keep the events of something in this
  -- relation to what it stood for, whatever that was.
  abbrev pub LeavesKept : Type 0 → (Scheduled BuiltIn → Scheduled BuiltIn → Type 0) → Scheduler BuiltIn S → Scheduler BuiltIn S → Type 0
  LeavesKept IsUnwritten Kept old new =
      HasCleanDisk (state g new.store.connection) → (trees : Trees) → (state g new.store.connection).may_leave trees
      → (IsUnwritten × (state g old.store.connection).may_leave trees) ⊎ KeepsCut Kept old trees

  -- Something is reached, and lasts, unless by its text nothing of it was written.
  pub record ReachesFor (Cut Relation : Scheduled BuiltIn → Scheduled BuiltIn → Type 0) (IsUnwritten : Type 0) (Kept : Scheduled BuiltIn → Scheduled BuiltIn → Type 0) (old new : Scheduler BuiltIn S) : Type 0 where
    pub does : Reaches Cut Relation old new
    pub lasts : IsUnwritten ⊎ LeavesKept ⊥ Kept old new

-- nothing was committed
abbrev pub Nowhere : Scheduled BuiltIn → Scheduled BuiltIn → Type 0
Nowhere before after = ⊥
