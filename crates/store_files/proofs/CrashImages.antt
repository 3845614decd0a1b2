-- What a crash leaves keeps a list of events.
use Rattle.std.proofs.Common.{◌≡◌, refl, subst, ℕ, inl, inr, List, [], ◌∷◌, Option, Some, None, is_some}
use Rattle.sqlite_trees.specs.declared.store.Store.{Ghosts}
use Rattle.sqlite_trees.specs.Tree.{Trees}
use Rattle.sqlite.specs.Held.{state}
use Rattle.sqlite.specs.State.{State, HasCleanDisk, Survives}
use Rattle.journal_model.specs.Notification.{Bytes}
use Rattle.journal_model.specs.Event.{Event}
use Rattle.journal_model.specs.Attempt.{live_attempt}
use Rattle.journal_model.specs.Cause.{IsAccepted}
use Rattle.store_calls.specs.AbstractStore.{Standing}
use Rattle.journal_store.specs.StoreStanding.{KeepsAll}
use Rattle.store_files.specs.CrashImages.{IsImageOf, LeavesOf, CallsLeave, ImagesAreStores, OpensLeave, QuietCallsLeave}

with_one : (lists : List (List Event)) (one : List Event) (trees : Trees) → IsImageOf lists trees → IsImageOf (one ∷ lists) trees
with_one lists one trees (events, is, accepted, keeps) = (events, inr is, accepted, keeps)

left_by : (lists more : List (List Event)) (old new : State) (P : Trees → Type 0) → Survives old new P → HasCleanDisk new → LeavesOf lists old
    → ((trees : Trees) → IsImageOf lists trees → IsImageOf more trees) → ((trees : Trees) → P trees → IsImageOf more trees) → LeavesOf more new
left_by lists more old new P lives clean before wider after trees may = elim (lives.crash clean trees may) [
  | inl earlier ↦ wider trees (before trees earlier)
  | inr committed ↦ after trees committed
]

-- tables of these events stand for them, whatever waits in memory
waits : Option ℕ → Option Bytes
waits None = None
waits (Some n) = Some []

alike : (o : Option ℕ) → is_some (waits o) ≡ is_some o
unfolding waits
alike None = refl
alike (Some n) = refl

standing_of : (events : List Event) → IsAccepted events → Standing
standing_of events accepted = record { events = events; accepted = accepted; outputs = λ id. waits (live_attempt events id); live = λ id. alike (live_attempt events id) }

pub calls_leave : {S : Type 0} (g : Ghosts S) (Relation : Standing → Standing → Type 0) (event : Event) → ((s t : Standing) → Relation s t → t.events ≡ event ∷ s.events)
    → CallsLeave g Relation event
unfolding standing_of
calls_leave g Relation event adds lists events old new store lives clean before =
    left_by lists ((event ∷ events) ∷ lists) (state g old.connection) (state g new.connection) _ lives clean before (with_one lists (event ∷ events)) (λ trees keeps.
    let it = keeps (standing_of events store.accepted) store in
    let same = adds (standing_of events store.accepted) it.0 it.1 in
    (event ∷ events, inl refl, subst IsAccepted same it.0.accepted, subst (λ (es : List Event). KeepsAll es trees) same it.2))

pub quiet_calls_leave : {S : Type 0} (g : Ghosts S) → QuietCallsLeave g
quiet_calls_leave g lists old new lives clean before = left_by lists lists (state g old.connection) (state g new.connection) _ lives clean before (λ trees image. image) (λ trees none. absurd none)

pub opens_leave : {S : Type 0} (g : Ghosts S) → OpensLeave g
opens_leave g lists old new lives clean before =
    left_by lists ([] ∷ lists) (state g old) (state g new) _ lives clean before (with_one lists []) (λ trees made. ([], inl refl, tt, made.1))

pub images_are : {S : Type 0} (g : Ghosts S) → ImagesAreStores g
images_are g lists found (events, is, accepted, keeps) = (
  events,
  is,
  record { accepted = accepted; read = keeps.read; keeps = λ clean is_open. record { accepted = accepted; records = keeps.records; held = keeps.held; kept = keeps.kept } },
)
