-- What is on its way from the live attempt of an invocation to the store, and how that passes on.
use Rattle.std.specs.Prelude.{◌≡◌, ℕ, Bool, true, false, bytes_eq, List, [], ◌∷◌, ◌++◌, Some, None}
use Rattle.journal_model.specs.Notification.{Text, Arrival}
use Rattle.journal_model.specs.Request.{Request}
use Rattle.journal_model.specs.Run.{Handler, Invocation}
use Rattle.journal_model.specs.Event.{Event, Frame}
use Rattle.journal_model.specs.Journal.{request_of_frame, recorded_requests}
use Rattle.journal_model.specs.Attempt.{live_attempt, is_input_closed}
use Rattle.journal_model.specs.Cause.{causes_of, IsAccepted}
use Rattle.journal_model.specs.Headline.{arrivals_handed}
use Rattle.run_laws.specs.SuspensionContent.{WaitsAll}
use Rattle.run_laws.specs.TakenFrames.{IsOfRun}
use Rattle.run_laws.specs.HeldInvocations.{Holds}

abbrev pub request_sent : Frame → List Request
request_sent frame = request_of_frame (Some frame)

abbrev pub requests_sent : List Frame → List Request
requests_sent [] = []
requests_sent (frame ∷ frames) = request_sent frame ++ requests_sent frames

-- a frame that an attempt may write behind these requests, when it was handed these arrivals, and its input was closed or not
abbrev pub SendsOneOfRun : Handler → Invocation → List Arrival → Bool → List Request → Frame → Type 0
SendsOneOfRun next given arrivals is_closed requests (Frame.Suspend suspension) = (is_closed ≡ true) × WaitsAll next given arrivals requests suspension
SendsOneOfRun next given arrivals is_closed requests frame = IsOfRun next given arrivals requests frame

-- frames that it may write, one after another
abbrev pub SendsOfRun : Handler → Invocation → List Arrival → Bool → List Request → List Frame → Type 0
SendsOfRun next given arrivals is_closed requests [] = Unit {0}
SendsOfRun next given arrivals is_closed requests (frame ∷ frames) =
    SendsOneOfRun next given arrivals is_closed requests frame × SendsOfRun next given arrivals is_closed (requests ++ request_sent frame) frames

-- what is on its way of the live attempt, if one is live, behind what is recorded
abbrev pub FliesOfRun : Handler → Invocation → Text → List Event → List Frame → Type 0
FliesOfRun next given id events coming =
    (attempt : ℕ) → live_attempt events id ≡ Some attempt
    → SendsOfRun next given (arrivals_handed events id) (is_input_closed events id) (recorded_requests events id) coming

-- what is recorded and what is on its way is of the run
pub record FollowsSo (next : Handler) (given : Invocation) (id : Text) (events : List Event) (coming : List Frame) : Type 0 where
  pub accepted : IsAccepted events
  pub holds : Holds next given id events
  pub flies : FliesOfRun next given id events coming

-- what is on its way after an event was accepted: a frame that is taken was the first, a new attempt has written nothing
abbrev pub PassesOn : Text → Event → List Frame → List Frame → Type 0
PassesOn id (Event.Begin other now) coming left = (bytes_eq other id ≡ true → left ≡ []) × (bytes_eq other id ≡ false → left ≡ coming)
PassesOn id (Event.Move other attempt frame) coming left = (bytes_eq other id ≡ true → coming ≡ frame ∷ left) × (bytes_eq other id ≡ false → left ≡ coming)
PassesOn id event coming left = left ≡ coming

-- a schedule as it is seen of one invocation: events are accepted, and its live attempt writes frames that are of the run
pub data ScheduleOfRun (next : Handler) (given : Invocation) (id : Text) : List Event → List Frame → Type 0 where
  starts : {events : List Event} → IsAccepted events → Holds next given id events → live_attempt events id ≡ None → ScheduleOfRun next given id events []
  accepts : {events : List Event} {coming left : List Frame} (event : Event) → ScheduleOfRun next given id events coming
      → causes_of events event ≡ [] → PassesOn id event coming left → ScheduleOfRun next given id (event ∷ events) left
  writes : {events : List Event} {coming : List Frame} (written : List Frame) → ScheduleOfRun next given id events coming
      → ((attempt : ℕ) → live_attempt events id ≡ Some attempt
      → SendsOfRun next given (arrivals_handed events id) (is_input_closed events id) (recorded_requests events id ++ requests_sent coming) written)
      → ScheduleOfRun next given id events (coming ++ written)
