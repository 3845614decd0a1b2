-- What a begin has come to: what is answered of it, and what stands of an attempt that nobody holds.
use Rattle.std.specs.Prelude.{◌≡◌, ℕ, Err}
use Rattle.sqlite_trees.specs.declared.store.Store.{Ghosts}
use Rattle.journal_model.specs.Notification.{Text}
use Rattle.store_refusals.specs.declared.refusal.Refusal.TheVariants.{OutOfMemory}
use Rattle.store_calls.specs.declared.begun.BegunAttempt.{BegunAttempt}
use Rattle.store_calls.specs.AbstractStore.{Standing}
use Rattle.store_calls.specs.Calls.{BeginsAttempt, BeginsStoredAttempt}
use Rattle.journal_store.specs.StoreStanding.{Leads}
use Rattle.schedule_model.specs.declared.event.EventRefusal.TheVariants as refusal
use Rattle.schedule_model.specs.declared.event.Reply.{Reply}
use Rattle.schedule_model.specs.declared.event.Reply.TheVariants as reply
use Rattle.scheduler.specs.declared.scheduler.Begun.{Begun}
use Rattle.scheduler.specs.declared.scheduler.Begun.TheVariants as begins
use Rattle.scheduler.specs.declared.scheduler.Scheduler.{Scheduler}

abbrev pub begun_reply : Begun → Reply
begun_reply (begins.Held number) = reply.Begun number
begun_reply (begins.Unheld number) = reply.Refused (refusal.Store OutOfMemory)
begun_reply (begins.Refused why) = reply.Refused (refusal.Store why)

-- an attempt of this number was begun
abbrev pub BeginsNumber : Text → (now number : ℕ) → Standing → Standing → Type 0
BeginsNumber id now number s t = (begun : BegunAttempt) × (begun.number ≡ number) × BeginsStoredAttempt id now begun s t

module _ {H S : Type 0} (g : Ghosts S) where
  -- where it is not held, an attempt of that number was begun, or none was; and what is held is what was held before
  abbrev pub LeadsUnheld : Text → (now : ℕ) → Begun → Scheduler H S → Scheduler H S → Type 0
  LeadsUnheld id now (begins.Held number) old new = Unit {0}
  LeadsUnheld id now (begins.Unheld number) old new = (new ≡ record old { store = new.store }) × Leads g (BeginsNumber id now number) old.store new.store
  LeadsUnheld id now (begins.Refused why) old new = (new ≡ record old { store = new.store }) × Leads g (BeginsAttempt id now (Err why)) old.store new.store
