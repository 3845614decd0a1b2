-- What a crash leaves, and what is found then.
use Rattle.std.specs.Prelude.{◌≡◌, ◌⊎◌, List, [], ◌∷◌}
use Rattle.sqlite_trees.specs.declared.store.Store.{Ghosts}
use Rattle.sqlite_trees.specs.Tree.{Trees}
use Rattle.sqlite.specs.Held.{Held, state}
use Rattle.sqlite.specs.State.{State, HasCleanDisk, Survives}
use Rattle.journal_model.specs.Event.{Event}
use Rattle.journal_model.specs.Cause.{IsAccepted}
use Rattle.store_invocations.specs.Rows.{IsStoreOf}
use Rattle.store_calls.specs.AbstractStore.{Standing}
use Rattle.journal_store.specs.StoreView.{Stored}
use Rattle.journal_store.specs.StoreStanding.{EnduresAlways, IsQuiet, KeepsAll}
use Rattle.journal_store.specs.OpeningConditions.{MakesTables}

abbrev pub IsAmong : List Event → List (List Event) → Type 0
IsAmong events [] = ⊥
IsAmong events (one ∷ lists) = (events ≡ one) ⊎ IsAmong events lists

-- tables that keep what is kept of one of these lists of accepted events
abbrev pub IsImageOf : List (List Event) → Trees → Type 0
IsImageOf lists trees = (events : List Event) × IsAmong events lists × IsAccepted events × KeepsAll events trees

-- a crash at this moment leaves no other tables
abbrev pub LeavesOf : List (List Event) → State → Type 0
LeavesOf lists s = (trees : Trees) → s.may_leave trees → IsImageOf lists trees

-- a call whose one commit makes something in this relation, of this event more, over tables of these events
abbrev pub CallsLeave : {S : Type 0} → Ghosts S → (Standing → Standing → Type 0) → Event → Type 0
CallsLeave {S} g Relation event = (lists : List (List Event)) (events : List Event) (old new : Stored S) → IsStoreOf events (state g old.connection)
    → EnduresAlways g Relation old new → HasCleanDisk (state g new.connection)
    → LeavesOf lists (state g old.connection) → LeavesOf ((event ∷ events) ∷ lists) (state g new.connection)

-- a call without a commit
abbrev pub QuietCallsLeave : {S : Type 0} → Ghosts S → Type 0
QuietCallsLeave {S} g = (lists : List (List Event)) (old new : Stored S) → IsQuiet g old new → HasCleanDisk (state g new.connection)
    → LeavesOf lists (state g old.connection) → LeavesOf lists (state g new.connection)

-- an open
abbrev pub OpensLeave : {S : Type 0} → Ghosts S → Type 0
OpensLeave {S} g = (lists : List (List Event)) (old new : Held S) → Survives (state g old) (state g new) (MakesTables (state g old)) → HasCleanDisk (state g new)
    → LeavesOf lists (state g old) → LeavesOf ([] ∷ lists) (state g new)

-- a connection that sees such tables is a store of one of the lists
abbrev pub ImagesAreStores : {S : Type 0} → Ghosts S → Type 0
ImagesAreStores {S} g = (lists : List (List Event)) (found : Held S) → IsImageOf lists (state g found).now.trees
    → (events : List Event) × IsAmong events lists × IsStoreOf events (state g found)
