-- What is left of accepted events once several invocations are forgotten, one after another.
use Rattle.std.specs.Prelude.{◌≡◌, Bool, true, false, List, [], ◌∷◌, None, bytes_eq}
use Rattle.std.specs.List.{list_any}
use Rattle.journal_model.specs.Notification.{Text}
use Rattle.journal_model.specs.Event.{Event}
use Rattle.journal_model.specs.Journal.{invocation_begun, object_state, starting_state, view_of}
use Rattle.journal_model.specs.Cause.{IsAccepted}
use Rattle.journal_model.specs.Forgetting.{without}

abbrev pub without_all : List Text → List Event → List Event
without_all [] events = events
without_all (id ∷ ids) events = without_all ids (without id events)

-- whether an invocation is one of these
abbrev pub is_among : List Text → Text → Bool
is_among ids other = list_any (λ id. bytes_eq id other) ids

-- Each other one has what it had, as where one is forgotten. None of these is known, and what is left was accepted.
pub record ForgetsAll (events : List Event) (ids : List Text) : Type 0 where
  pub views : (other : Text) → is_among ids other ≡ false → view_of other (without_all ids events) ≡ view_of other events
  pub starts : (other : Text) → is_among ids other ≡ false → starting_state (without_all ids events) other ≡ starting_state events other
  pub states : (object : Text) → object_state (without_all ids events) object ≡ object_state events object
  pub unknown : (id : Text) → is_among ids id ≡ true → invocation_begun (without_all ids events) id ≡ None
  pub accepted : IsAccepted events → IsAccepted (without_all ids events)

abbrev pub SeveralForget : Type 0
SeveralForget = (events : List Event) (ids : List Text) → ForgetsAll events ids
