-- An invocation that has come as far as its arrivals lead, and what is recorded of it then.
use Rattle.std.specs.Prelude.{◌≡◌, ◌⊎◌, List, Some}
use Rattle.journal_model.specs.Notification.{Text}
use Rattle.journal_model.specs.Event.{Event}
use Rattle.journal_model.specs.Journal.{recorded_requests, recorded_arrivals, recorded_answer, Closing, closing_of}
use Rattle.journal_model.specs.Cause.{IsAccepted}
use Rattle.journal_model.specs.Run.{Handler, Invocation}
use Rattle.journal_model.specs.Headline.{IsSuspended, arrivals_handed}
use Rattle.run_laws.specs.HeldInvocations.{Holds}

-- its last attempt is suspended, and was handed all that is recorded
pub record WaitsForMore (events : List Event) (id : Text) : Type 0 where
  pub suspended : IsSuspended events id
  pub handed : arrivals_handed events id ≡ recorded_arrivals events id

-- it has ended, or waits for more
abbrev pub IsSettled : List Event → Text → Type 0
IsSettled events id = (closing_of events id ≡ Some Closing.ByEnd) ⊎ WaitsForMore events id

-- where its run is the same and its arrivals are equal, so is all that is recorded, whatever the attempts were, and their turns and cuts
abbrev pub SettledRecordTheSame : Type 0
SettledRecordTheSame = (next : Handler) (given : Invocation) (id : Text) (events others : List Event) → IsAccepted events → IsAccepted others
    → Holds next given id events → Holds next given id others → recorded_arrivals events id ≡ recorded_arrivals others id
    → IsSettled events id → IsSettled others id
    → (recorded_requests events id ≡ recorded_requests others id) × (recorded_answer events id ≡ recorded_answer others id)
