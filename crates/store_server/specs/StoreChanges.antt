-- What becomes of a store, said of what it stands for.
use Rattle.std.specs.Prelude.{◌⊎◌, List, Result, Ok, Err}
use Rattle.sqlite_trees.specs.declared.store.Store.{Ghosts}
use Rattle.sqlite_trees.specs.Tree.{Trees}
use Rattle.sqlite.specs.Held.{state}
use Rattle.sqlite.specs.State.{HasCleanDisk}
use Rattle.journal_model.specs.Notification.{Text}
use Rattle.journal_model.specs.Event.{Event}
use Rattle.store_refusals.specs.declared.refusal.Refusal.{Refusal}
use Rattle.store_refusals.specs.Preparations.{TellsOrRefuses}
use Rattle.store_invocations.specs.Rows.{Decides, known_tests}
use Rattle.store_calls.specs.AbstractStore.{Standing, StaysStanding}
use Rattle.journal_store.specs.StoreView.{Stored}
use Rattle.journal_store.specs.StoreStanding.{Endures, KeepsStanding, Leads}

module _ {S : Type 0} (g : Ghosts S) where
  -- Whatever it stood for, it stands for something in this relation to it then, if the disk returned what was written; and what a
  -- crash leaves is what it left before, or what keeps the events of something that is cut off so.
  pub record ReachesStore (Cut Relation : Standing → Standing → Type 0) (old new : Stored S) : Type 0 where
    pub crash : Endures g Cut old new
    pub leads : Leads g Relation old new

  -- Whatever a crash leaves from now on: what it could leave before, if this holds; or tables that keep the events of something in this
  -- relation to what the store stood for, whatever that was.
  abbrev pub LeavesKept : Type 0 → (Standing → Standing → Type 0) → Stored S → Stored S → Type 0
  LeavesKept IsUnwritten Kept old new =
      HasCleanDisk (state g new.connection) → (trees : Trees) → (state g new.connection).may_leave trees
      → (IsUnwritten × (state g old.connection).may_leave trees) ⊎ KeepsStanding g Kept old trees

  -- something is done and answered, and lasts, unless by its answer nothing of it was written
  pub record AnswersFor (Cut Relation : Standing → Standing → Type 0) (IsUnwritten : Type 0) (Kept : Standing → Standing → Type 0) (old new : Stored S) : Type 0 where
    pub reaches : ReachesStore Cut Relation old new
    pub lasts : IsUnwritten ⊎ LeavesKept ⊥ Kept old new

-- nothing was committed
abbrev pub CommitsNothing : Standing → Standing → Type 0
CommitsNothing old new = ⊥

-- this is told of the accepted events, or nothing is, for a circumstance; and nothing changes
abbrev pub Tells : {A : Type 0} → (List Event → A → Type 0) → Result A Refusal → Standing → Standing → Type 0
Tells IsTold told old new = TellsOrRefuses (IsTold old.events) told × StaysStanding old new

-- this is told of an invocation that is known, and one that is not is refused; and nothing changes
abbrev pub TellsKnown : {A : Type 0} → Text → (List Event → A → Type 0) → Result A Refusal → Standing → Standing → Type 0
TellsKnown id IsTold told old new = Decides (known_tests old.events id) (IsTold old.events) told × StaysStanding old new

-- a vector that is told, by its items
abbrev pub items_told : {V A : Type 0} → (V → List A) → Result V Refusal → Result (List A) Refusal
items_told items (Ok made) = Ok (items made)
items_told items (Err why) = Err why
