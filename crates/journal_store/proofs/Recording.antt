-- An invocation is recorded, or an event is refused.
use Rattle.std.proofs.Common.{◌≡◌, refl, List, [], inr, Result, Ok, Err, arith}
use Rattle.sqlite_trees.specs.declared.store.Store.{Ghosts}
use Rattle.sqlite.specs.Held.{Held, state}
use Rattle.sqlite.specs.State.{HasCleanDisk}
use Rattle.journal_model.specs.declared.invocation.NewInvocation.{NewInvocation}
use Rattle.journal_model.specs.Event.{Event}
use Rattle.journal_model.specs.Cause.{causes_of}
use Rattle.store_tables.specs.declared.row.Write.{Write}
use Rattle.store_tables.specs.Looks.{OnlyAsks}
use Rattle.store_tables.specs.Steps.{Lands}
use Rattle.store_model.specs.Writes.{writes_of}
use Rattle.store_refusals.specs.declared.refusal.Refusal.{Refusal}
use Rattle.store_refusals.specs.RefusalConditions.{IsRefused}
use Rattle.store_invocations.specs.Rows.{IsStoreOf}
use Rattle.store_invocations.proofs.Standing.{store_kept}
use Rattle.store_live.specs.Attempts.{Attempts}
use Rattle.store_calls.specs.AbstractStore.{Refuses}
use Rattle.store_calls.specs.Calls.{Invokes}
use Rattle.journal_store.specs.StoreView.{stored}
use Rattle.journal_store.specs.StoreStanding.{Leads}
use Rattle.journal_store.specs.StoreTransaction.{WritesRows}
use Rattle.journal_store.proofs.Standing.{all_stored, stands_asked, stands_invoked, store_still}
use Rattle.journal_store.proofs.Leading.{adds, refuses}

-- it is refused before anything is written
pub looked : {S : Type 0} (g : Ghosts S) (a b : Held S) (live : Attempts) (event : Event) (why : Refusal) → OnlyAsks g a b
    → (HasCleanDisk (state g b) → (events : List Event) → IsStoreOf events (state g a) → IsRefused (causes_of events event) why)
    → Leads g (Refuses event why) (stored a live) (stored b live)
looked g a b live event why looks cause clean s is =
    refuses g s (stored a live) (stored b live) is event why (cause clean s.events is.stands.kept)
    (stands_asked s.events (state g a) (state g b) live.attempts looks.crash looks.kept is.stands) (λ id. refl)

-- what was made ready was written, or nothing was
pub invokes : {S : Type 0} (g : Ghosts S) (a mid b : Held S) (live : Attempts) (new : NewInvocation) (writes : List Write) (result : Result (Unit {0}) Refusal) → OnlyAsks g a mid
    → (HasCleanDisk (state g mid) → (events : List Event) → IsStoreOf events (state g a) → (causes_of events (Event.Invoke new) ≡ []) × (writes ≡ writes_of events (Event.Invoke new)))
    → WritesRows g writes mid b result → Leads g (Invokes new result) (stored a live) (stored b live)
invokes g a mid b live new writes (Ok done) looks ready wrote clean s is =
    let early : HasCleanDisk (state g mid) = omega (arith, wrote.crash.clean, clean) in
    let made = ready early s.events is.stands.kept in
    let store = store_kept s.events (state g a) (state g mid) looks.crash looks.kept is.stands.kept in
    let after = all_stored s.events (Event.Invoke new) (state g mid) (state g b) (Lands writes (state g mid)) writes wrote.crash clean store tt made.0 made.1 (wrote.done clean) in
    adds g s (stored a live) (stored b live) is (Event.Invoke new) (stands_invoked s.events new (state g b) live.attempts made.0 is.stands.kept.accepted after is.stands.live is.stands.rows) (λ id. refl)
invokes g a mid b live new writes (Err why) looks ready wrote clean s is =
    let store = store_kept s.events (state g a) (state g mid) looks.crash looks.kept is.stands.kept in
    refuses g s (stored a live) (stored b live) is (Event.Invoke new) why (inr wrote.why.circumstance)
    (record { kept = store_still s.events (state g mid) (state g b) (Lands writes (state g mid)) wrote.crash wrote.undone store; live = is.stands.live; rows = is.stands.rows }) (λ id. refl)
