-- What each reply of a schedule tells where the database refused a statement.
use Rattle.std.specs.Prelude.{◌≡◌, List, [], ◌∷◌, IfSome}
use Rattle.sqlite_trees.specs.declared.store.Store.{Ghosts}
use Rattle.sqlite.specs.Held.{state}
use Rattle.sqlite.specs.State.{HasCleanDisk}
use Rattle.journal_model.specs.Run.{Handler}
use Rattle.vm_types.specs.declared.options.VMOptions.{VMOptions}
use Rattle.journal_store.specs.StoreView.{Stored}
use Rattle.journal_store.specs.StoreStanding.{Endures}
use Rattle.schedule_laws.specs.Schedules.scheduled
use Rattle.schedule_laws.specs.Schedules.{Applies, Reply, Scheduled}
use Rattle.scheduler.specs.declared.scheduler.Scheduler.{Scheduler}
use Rattle.scheduler.specs.SchedulerCalls.{AppliesWith, IsScheduled, TellsCauseOf, refusal_told}

module _ {H S : Type 0} (g : Ghosts S) (function : H → Handler) (options : VMOptions) where
  -- The event was applied, and its reply tells the cause where the database refused something of it.
  pub record IsTold (one : scheduled.Event H) (answer : Reply) (old new : Scheduler H S) : Type 0 where
    pub does : HasCleanDisk (state g new.store.connection) → (from : Scheduled H) → IsScheduled g from old → (to : Scheduled H) × IsScheduled g to new × Applies function options one answer from to
    pub cause : IfSome (refusal_told answer) (TellsCauseOf g one old.held answer old.store new.store)
    pub crash : Endures g (AppliesWith function options one old.held) old.store new.store

  -- each event, one after another
  abbrev pub AreTold : List (scheduled.Event H) → List Reply → Scheduler H S → Scheduler H S → Type 0
  AreTold [] [] old new = new ≡ old
  AreTold (one ∷ events) (answer ∷ replies) old new = (between : Scheduler H S) × IsTold one answer old between × AreTold events replies between new
  AreTold _ _ old new = ⊥

  -- from a scheduler over this store that holds no attempt yet
  pub record TellsCauses (events : List (scheduled.Event H)) (replies : List Reply) (store : Stored S) (new : Scheduler H S) : Type 0 where
    pub first : Scheduler H S
    pub over : first.store ≡ store
    pub held : first.held ≡ []
    pub told : AreTold events replies first new
