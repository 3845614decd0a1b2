-- How each invocation that is due is gone on with: a tick, a look, and an attempt of each that is not put off.
use Rattle.std.specs.Prelude.{◌≡◌, ◌⊎◌, ℕ, true, false, List, [], ◌∷◌, Option, Some, None, Result, Ok, Err, IfErr}
use Rattle.sqlite_trees.specs.declared.store.Store.{Ghosts}
use Rattle.journal_model.specs.Attempt.{due as due_after}
use Rattle.journal_model.specs.Notification.{Text}
use Rattle.journal_model.specs.Run.{Handler}
use Rattle.store_refusals.specs.declared.refusal.Refusal.{Refusal}
use Rattle.store_refusals.specs.declared.refusal.Refusal.TheVariants.{OutOfMemory}
use Rattle.journal_store.specs.Causes.{TellsWhy}
use Rattle.journal_store.specs.StoreStanding.{IsQuiet}
use Rattle.schedule_model.specs.Executing.{Execution}
use Rattle.schedule_model.specs.declared.event.Event.TheVariants as event
use Rattle.schedule_model.specs.declared.event.EventRefusal.{EventRefusal}
use Rattle.schedule_model.specs.declared.event.EventRefusal.TheVariants as refusal
use Rattle.schedule_model.specs.declared.event.Reply.{Reply}
use Rattle.scheduler.specs.declared.outcome.Outcome.{Outcome}
use Rattle.scheduler.specs.declared.scheduler.Scheduler.{Scheduler}
use Rattle.scheduler.specs.Loop.{GoesOn, IsAttempt}
use Rattle.scheduler.specs.Outcomes.{refusal_in}
use Rattle.scheduler.specs.PutOff.{Notes, PutOff, is_put_off, wait_after, wait_of}
use Rattle.scheduler.specs.SchedulerCalls.{Performs, TellsAlways}

module _ {H S : Type 0} (g : Ghosts S) where
  -- it is looked up which invocations are due, of whatever the scheduler stands for
  pub record LooksUpDue (ids : Result (List Text) Refusal) (old new : Scheduler H S) : Type 0 where
    pub told : TellsAlways g (λ events due. due ≡ due_after events) ids old new
    pub kept : new ≡ record old { store = new.store }
    pub cause : IfErr ids (TellsWhy g old.store new.store)
    pub quiet : IsQuiet g old.store new.store

module _ {H S : Type 0} (g : Ghosts S) (function : H → Handler) where
  -- it is this moment, of which this is refused, if anything is
  pub record TellsMoment (now : ℕ) (why : Option EventRefusal) (old new : Scheduler H S) : Type 0 where
    pub answer : Reply
    pub refused : refusal_in answer ≡ why
    pub performs : Performs g function (event.Tick now) answer old new

  -- Behind the tick the look is refused, or memory is for the outcomes.
  abbrev pub FindsNone : EventRefusal → Scheduler H S → Scheduler H S → Type 0
  FindsNone why old new =
      ((cause : Refusal) × (why ≡ refusal.Store cause) × LooksUpDue g (Err cause) old new) ⊎ ((ids : List Text) × (why ≡ refusal.Store OutOfMemory) × LooksUpDue g (Ok ids) old new)

  -- None is gone on with: the tick is refused, or what follows it.
  abbrev pub RunsNone : (now : ℕ) → EventRefusal → Scheduler H S → Scheduler H S → Type 0
  RunsNone now why old new = TellsMoment now (Some why) old new ⊎ ((told : Scheduler H S) × TellsMoment now None old told × FindsNone why told new)

-- a scheduler, its host, and what is put off
pub record Driven (H S W : Type 0) : Type 0 where
  pub scheduler : Scheduler H S
  pub host : W
  pub waits : PutOff

-- what is told of an invocation is in front of what is told of others, if anything is
abbrev pub and_told : Text → Option Outcome → List (Text × Outcome) → List (Text × Outcome)
and_told id None others = others
and_told id (Some told) others = (id, told) ∷ others

module _ {H S W : Type 0} (g : Ghosts S) (Executes : Execution W) (Gives : Text → W → H → W → Type 0) (function : H → Handler) (now : ℕ) where
  -- an invocation is gone on with, by the handler that the host gives for it, and what it has come to is noted
  pub record GoesOnWith (id : Text) (told : Outcome) (old new : Driven H S W) : Type 0 where
    pub handler : H
    pub host : W
    pub gives : Gives id old.host handler host
    pub goes_on : GoesOn g Executes function id (IsAttempt id handler now) told old.scheduler host new.scheduler new.host
    pub notes : Notes id (wait_after told now (wait_of old.waits id)) old.waits new.waits

  -- unless it is put off
  abbrev pub GoesOnUnlessPutOff : Text → Option Outcome → Driven H S W → Driven H S W → Type 0
  GoesOnUnlessPutOff id None old new = (is_put_off (wait_of old.waits id) now ≡ true) × (new ≡ old)
  GoesOnUnlessPutOff id (Some told) old new = (is_put_off (wait_of old.waits id) now ≡ false) × GoesOnWith id told old new

  -- each of these, one after another
  abbrev pub GoesOnEach : List Text → List (Text × Outcome) → Driven H S W → Driven H S W → Type 0
  GoesOnEach [] outcomes old new = (outcomes ≡ []) × (new ≡ old)
  GoesOnEach (id ∷ ids) outcomes old new =
      (between : Driven H S W) × (told : Option Outcome) × (others : List (Text × Outcome)) × (outcomes ≡ and_told id told others)
      × GoesOnUnlessPutOff id told old between × GoesOnEach ids others between new

  -- those that are due then
  pub record RunsDue (outcomes : List (Text × Outcome)) (old new : Driven H S W) : Type 0 where
    pub told : Scheduler H S
    pub looked : Scheduler H S
    pub ids : List Text
    pub tick : TellsMoment g function now None old.scheduler told
    pub due : LooksUpDue g (Ok ids) told looked
    pub each : GoesOnEach ids outcomes (record old { scheduler = looked }) new
