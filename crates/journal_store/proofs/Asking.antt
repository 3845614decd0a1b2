-- A store that is asked alone.
use Rattle.std.proofs.Common.{◌≡◌, sym, subst, List}
use Rattle.sqlite_trees.specs.declared.store.Store.{Ghosts}
use Rattle.sqlite.specs.Held.{Held, state}
use Rattle.journal_model.specs.Event.{Event}
use Rattle.store_tables.specs.Looks.{OnlyAsks}
use Rattle.store_invocations.specs.Rows.{IsStoreOf}
use Rattle.store_live.specs.Attempts.{Attempts}
use Rattle.journal_store.specs.StoreView.{Stored, stored}
use Rattle.journal_store.specs.StoreStanding.{Stands}
use Rattle.journal_store.proofs.Standing.{stands_asked}

-- the same, where what is told hangs on the attempts in memory
pub asked_live : {S : Type 0} (g : Ghosts S) (old new : Held S) (live : Attempts) (before : Stored S) → stored old live ≡ before → OnlyAsks g old new
    → (Told : List Event → Type 0) → ((events : List Event) → Stands events (state g old) live.attempts → Told events)
    → (events : List Event) → Stands events (state g before.connection) before.live.attempts → Told events × Stands events (state g new) live.attempts
asked_live {S} g old new live before view looks Told told events stands =
    let here : Stands events (state g old) live.attempts = subst (λ (store : Stored S). Stands events (state g store.connection) store.live.attempts) (sym view) stands in
    (told events here, stands_asked events (state g old) (state g new) live.attempts looks.crash looks.kept here)

-- what its tables tell of the events is told of those that it stands for, and it stands for them then
pub asked : {S : Type 0} (g : Ghosts S) (old new : Held S) (live : Attempts) (before : Stored S) → stored old live ≡ before → OnlyAsks g old new
    → (Told : List Event → Type 0) → ((events : List Event) → IsStoreOf events (state g old) → Told events)
    → (events : List Event) → Stands events (state g before.connection) before.live.attempts → Told events × Stands events (state g new) live.attempts
asked {S} g old new live before view looks Told told events stands =
    let here : Stands events (state g old) live.attempts = subst (λ (store : Stored S). Stands events (state g store.connection) store.live.attempts) (sym view) stands in
    (told events here.kept, stands_asked events (state g old) (state g new) live.attempts looks.crash looks.kept here)
