-- A begin, whether its attempt is held or not, is performed.
use Rattle.std.proofs.Common.{◌≡◌, ℕ, ◌<◌, ◌^◌, IfSome}
use Rattle.sqlite_trees.specs.declared.store.Store.{Ghosts}
use Rattle.journal_model.specs.Event as model
use Rattle.journal_model.specs.Notification.{Text}
use Rattle.journal_model.specs.Run.{Handler}
use Rattle.journal_store.specs.Attempts.{BeginsSome}
use Rattle.journal_store.specs.Causes.{TellsWhyUnwritten, TriesEvent}
use Rattle.journal_store.specs.StoreStanding.{EnduresAlways, Leads, Settles}
use Rattle.schedule_model.specs.declared.event.Event.TheVariants as event
use Rattle.schedule_model.specs.Schedule.{BeginDoes}
use Rattle.scheduler.specs.declared.scheduler.Begun.{Begun}
use Rattle.scheduler.specs.declared.scheduler.Begun.TheVariants as begun
use Rattle.scheduler.specs.declared.scheduler.Scheduler.{Scheduler}
use Rattle.scheduler.specs.Begins.{begun_reply}
use Rattle.scheduler.specs.SchedulerCalls.{HasBegun, IsTakenUp, Performs, refusal_told}
use Rattle.scheduler.proofs.Scheduling.{begins_with, crashes, spares_all, spares_taken_up}

taken_up : (one : Begun) → IsTakenUp (begun_reply one)
taken_up (begun.Held number) = tt
taken_up (begun.Unheld number) = tt
taken_up (begun.Refused why) = tt

module _ {H S : Type 0} (g : Ghosts S) (function : H → Handler) (id : Text) (handler : H) (now : ℕ) (old new : Scheduler H S) (one : Begun) where
  pub begins : Leads g (λ s t. BeginDoes old.options id handler now s old.held (begun_reply one) t new.held) old.store new.store → new.options ≡ old.options
      → (HasBegun (begun_reply one) → Settles g (λ s t. BeginDoes old.options id handler now s old.held (begun_reply one) t new.held) old.store new.store) → now < 2 ^ 64
      → IfSome (refusal_told (begun_reply one)) (TellsWhyUnwritten g old.store new.store (TriesEvent (model.Event.Begin id now))) → EnduresAlways g (BeginsSome id now) old.store new.store
      → Performs g function (event.Begin id handler now) (begun_reply one) old new
  begins does options settled moment cause crash = record {
    does = does;
    lasts = λ written clean s is. let lasting = settled written clean s is in (lasting.0, lasting.1, (lasting.2, lasting.3));
    options = options;
    fits = moment;
    live = tt;
    spares = spares_all g (event.Begin id handler now) (begun_reply one) old new (spares_taken_up (begun_reply one) old new (taken_up one)) tt;
    cause = cause;
    crash = crashes g function (event.Begin id handler now) old (BeginsSome id now) new.store (λ s t it. begins_with function old.options id handler now old.held s t it) crash;
  }
