-- Invocations with a live attempt.
use Rattle.std.specs.Prelude.{◌≡◌, ℕ, true, List}
use Rattle.journal_model.specs.Notification.{Text}
use Rattle.journal_model.specs.Event.{Event}
use Rattle.journal_model.specs.Journal.{is_open}
use Rattle.journal_model.specs.Attempt.{is_live}
use Rattle.journal_model.specs.Cause.{IsAccepted}

-- an attempt is live in an open invocation alone
abbrev pub LiveAreOpen : Type 0
LiveAreOpen = (events : List Event) (id : Text) (number : ℕ) → IsAccepted events → is_live events id number ≡ true → is_open events id ≡ true
