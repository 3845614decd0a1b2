-- An invocation that has once come as far as its arrivals lead, and what is recorded of it from then on.
use Rattle.std.specs.Prelude.{◌≡◌, ◌⊎◌, ℕ, List, ◌∷◌, ◌++◌, Option, Some}
use Rattle.std.specs.List.{AllByRecursion}
use Rattle.journal_model.specs.Notification.{Text}
use Rattle.journal_model.specs.Event.{Event, Frame, Suspension}
use Rattle.journal_model.specs.Journal.{recorded_requests, recorded_arrivals, recorded_answer, ByEnd, closing_of}
use Rattle.journal_model.specs.Cause.{IsAccepted}
use Rattle.journal_model.specs.Run.{Handler, Invocation}
use Rattle.journal_model.specs.Headline.{arrivals_handed}
use Rattle.run_laws.specs.HeldInvocations.{Holds}
use Rattle.schedule_laws.specs.InvocationInRun.{FailsNot}

-- An attempt of it was suspended that had been handed all that is recorded by now, whatever has been accepted since: another attempt may have
-- been begun, and may be live.
pub record WasSuspended (events : List Event) (id : Text) : Type 0 where
  pub later : List Event
  pub attempt : ℕ
  pub suspension : Option Suspension
  pub earlier : List Event
  pub parts : events ≡ later ++ Event.Move id attempt (Frame.Suspend suspension) ∷ earlier
  pub handed : arrivals_handed (Event.Move id attempt (Frame.Suspend suspension) ∷ earlier) id ≡ recorded_arrivals events id

-- it has ended, or has waited for more than has come
abbrev pub WasSettled : List Event → Text → Type 0
WasSettled events id = (closing_of events id ≡ Some ByEnd) ⊎ WasSuspended events id

-- Where its run is the same and its arrivals are equal, so is all that is recorded of it, whatever its attempts were, and their turns and cuts.
abbrev pub SettledOnceTheSame : Type 0
SettledOnceTheSame = (next : Handler) (given : Invocation) (id : Text) (events others : List Event) → IsAccepted events → IsAccepted others
    → Holds next given id events → Holds next given id others → AllByRecursion (FailsNot id) events → AllByRecursion (FailsNot id) others
    → recorded_arrivals events id ≡ recorded_arrivals others id → WasSettled events id → WasSettled others id
    → (recorded_requests events id ≡ recorded_requests others id) × (recorded_answer events id ≡ recorded_answer others id)
