-- What lasts of a move.
use Rattle.std.proofs.Common.{subst, ℕ, List, Option, Some, None, Ok, inl, inr}
use Rattle.sqlite.specs.State.{State}
use Rattle.journal_model.specs.Notification.{Bytes, Text}
use Rattle.journal_model.specs.Event.{Event}
use Rattle.store_refusals.specs.declared.refusal.Refusal.{Refusal}
use Rattle.store_steps.specs.declared.frame.FrameReply.{FrameReply}
use Rattle.store_calls.specs.AbstractStore.{Standing, StaysStanding}
use Rattle.store_calls.specs.Calls.{PutsBehind}
use Rattle.store_calls.specs.Frames.{Accepts, TakesEach}
use Rattle.store_calls.proofs.Taking.{before_still, same_put, same_taken}
use Rattle.journal_store.specs.StoreStanding.{KeepsAll, Outlasts}
use Rattle.journal_store.specs.OutputAcceptance.{OutlastsFrames}
use Rattle.scheduler.specs.SchedulerCalls.{OutlastsRest}

same_lasts : (id : Text) (n : ℕ) (why : Option Refusal) (m k : Standing) → StaysStanding m k → (database : State) → OutlastsFrames id n why k database → OutlastsFrames id n why m database
same_lasts id n None m k same database it = subst (λ (events : List Event). Outlasts events database) same.events it
same_lasts id n (Some why) m k same database it = λ trees may. elim (it trees may) [
  | inl kept ↦ inl (subst (λ (events : List Event). KeepsAll events trees) same.events kept)
  | inr more ↦ inr (more.0, (more.1.0, before_still id n more.1.0 m k more.0 same more.1.1), more.2)
]

-- what was taken first of the same bytes is the same, so what lasts of it lasts of what the store stands for
pub rest_lasts : (id : Text) (n : ℕ) (bytes : Bytes) (replies : List FrameReply) (why : Option Refusal) (s t : Standing) (database : State)
    → (m : Standing) × PutsBehind id n bytes s m × ((k : Standing) × TakesEach id n replies m k × OutlastsFrames id n why k database)
    → Accepts id n bytes (Ok (replies, why)) s t → OutlastsRest id n why t database
rest_lasts id n bytes replies why s t database lasts it =
    let fed = same_put id n bytes s it.0 lasts.0 it.1 lasts.1 in
    let same = same_taken id n replies it.0 lasts.0 it.2.between lasts.2.0 fed it.2.taken lasts.2.1 in
    (it.2.between, it.2.rests, same_lasts id n why it.2.between lasts.2.0 same database lasts.2.2)
