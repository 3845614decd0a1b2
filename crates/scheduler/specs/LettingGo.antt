-- What letting go of an attempt, and forgetting invocations, make of a scheduler.
use Rattle.std.specs.Prelude.{◌≡◌, ℕ, true, List, [], ◌∷◌, Some, None, Result, Ok, Err, OnOk}
use Rattle.sqlite_trees.specs.declared.store.Store.{Ghosts}
use Rattle.journal_model.specs.Attempt.{live_attempt}
use Rattle.journal_model.specs.Notification.{Text}
use Rattle.store_refusals.specs.declared.refusal.Refusal.{Refusal}
use Rattle.store_calls.specs.AbstractStore.{Standing}
use Rattle.store_calls.specs.Calls.{Stops}
use Rattle.store_calls.specs.Forgetting.{Forgets}
use Rattle.journal_store.specs.StoreStanding.{Leads}
use Rattle.schedule_model.specs.declared.held.HeldAttempt.{HeldAttempt}
pub use Rattle.schedule_model.specs.LettingGo.{is_among, left_of}
use Rattle.scheduler.specs.declared.scheduler.Scheduler.{Scheduler}

-- An attempt is stopped in the store, if it is live, and is not held any more; all others are held as before.
pub record LetsGoOf {H S : Type 0} (g : Ghosts S) (id : Text) (attempt : ℕ) (old new : Scheduler H S) : Type 0 where
  pub stopped : Result (Unit {0}) Refusal
  pub stops : Leads g (Stops id attempt stopped) old.store new.store
  pub others : new ≡ record old { store = new.store; held = left_of (id ∷ []) (Some attempt) old.held }

-- Invocations are forgotten, of which none had a live attempt: it would be open, which is S1. Or none is forgotten.
pub record ForgetsClosed (ids : List Text) (result : Result (Unit {0}) Refusal) (s t : Standing) : Type 0 where
  pub forgets : Forgets ids result s t
  pub none_live : OnOk result ((id : Text) → is_among ids id ≡ true → live_attempt s.events id ≡ None)

-- no attempt of an invocation that was forgotten is held then
abbrev pub held_behind : {H : Type 0} → List Text → Result (Unit {0}) Refusal → List (HeldAttempt H) → List (HeldAttempt H)
held_behind ids (Ok done) held = left_of ids None held
held_behind ids (Err why) held = held
