-- What is left of accepted events once an invocation is forgotten: those of all others, the ticks, and what its requests have made of its
-- object's state.
use Rattle.std.specs.Prelude.{◌≡◌, ℕ, Bool, true, false, if◌then◌else◌, List, [], ◌∷◌, ◌++◌, map, not, Option, Some, None, is_some, bytes_eq}
use Rattle.journal_model.specs.Notification.{Text}
use Rattle.journal_model.specs.Request.{Request}
use Rattle.journal_model.specs.Event.{Event}
use Rattle.journal_model.specs.Journal.{is_of, frame_of, object_of, request_of_frame, invocation_begun, is_open, object_state, starting_state, view_of}
use Rattle.journal_model.specs.declared.options.RunOptions.{RunOptions}
use Rattle.journal_model.specs.Run.{Handler, Invocation}
use Rattle.journal_model.specs.Headline.{Headline, NeverLate, WakesExactly}
use Rattle.journal_model.specs.Cause.{Tests, IsAccepted}
use Rattle.journal_model.specs.declared.cause.Cause.TheVariants.{ObjectBusy, UnknownInvocation}

-- what requests of an object's invocation leave of themselves
abbrev pub edits : Option Text → List Request → List Event
edits None requests = []
edits (Some object) requests = map (Event.Edit object) requests

-- what one event leaves, behind those before it, where this invocation is forgotten
abbrev pub left_of : Text → List Event → Event → List Event
left_of id earlier event = if is_of id event then edits (object_of earlier event) (request_of_frame (frame_of event)) else event ∷ []

-- the accepted events without those of a forgotten invocation
abbrev pub without : Text → List Event → List Event
without id [] = []
without id (event ∷ earlier) = left_of id earlier event ++ without id earlier

-- one that is not known, or open, is not forgotten
abbrev pub forget_tests : List Event → Text → Tests
forget_tests events id = (is_open events id, ObjectBusy) ∷ (not (is_some (invocation_begun events id)), UnknownInvocation) ∷ []

-- Forgetting one leaves of each other what it had: its own events and the ticks, and the state that its object had at its start. The states
-- of all objects stay, the id is that of no invocation, and what is left was accepted.
pub record ForgetsOne (events : List Event) (id : Text) : Type 0 where
  pub views : (other : Text) → bytes_eq id other ≡ false → view_of other (without id events) ≡ view_of other events
  pub starts : (other : Text) → bytes_eq id other ≡ false → starting_state (without id events) other ≡ starting_state events other
  pub states : (object : Text) → object_state (without id events) object ≡ object_state events object
  pub unknown : invocation_begun (without id events) id ≡ None
  pub accepted : IsAccepted events → IsAccepted (without id events)

abbrev pub AllForget : Type 0
AllForget = (events : List Event) (id : Text) → ForgetsOne events id

-- the main theorem's sentence still holds of each other
abbrev pub HeadlineStays : Type 0
HeadlineStays = (handler : Handler) (options : RunOptions) (seed : ℕ) (events : List Event) (id other : Text) → bytes_eq id other ≡ false
    → Headline handler options seed events other → Headline handler options seed (without id events) other

-- waking is still never late of it, and still exact
abbrev pub WakingStays : Type 0
WakingStays = (handler : Handler) (given : Invocation) (events : List Event) (id other : Text) → bytes_eq id other ≡ false
    → (NeverLate handler given events other → NeverLate handler given (without id events) other) × (WakesExactly handler given events other → WakesExactly handler given (without id events) other)
