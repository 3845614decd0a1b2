-- The outcomes of runs between the live attempt and the store.
use Rattle.std.specs.Prelude.{◌≡◌, ◌≤◌, ◌⊎◌, ℕ, Bool, true, false, List, [], ◌∷◌, ◌++◌}
use Rattle.journal_model.specs.declared.value.NonEmptyValue.{NonEmptyValue}
use Rattle.journal_model.specs.Notification.{Text, Arrival}
use Rattle.journal_model.specs.Request.{Request}
use Rattle.journal_model.specs.Event.{Event, Frame}
use Rattle.journal_model.specs.Journal.{begins, entries_of, open_request, recorded_requests, recorded_arrivals}
use Rattle.journal_model.specs.Attempt.{begins_attempt}
use Rattle.journal_model.specs.Cause.{is_run, IsAccepted}
use Rattle.journal_model.specs.Run.{Handler, Invocation, BeginsRun}
use Rattle.live_laws.specs.RequestsInFlight.{request_sent, requests_sent, PassesOn}
use Rattle.body_laws.specs.BodySimulation.{has_arrived, count_proposed}
use Rattle.replay_laws.specs.Outcomes.{runs}

-- the outcomes that frames propose, whether they are to be acknowledged or not
abbrev pub outcomes_in : List Frame → List (ℕ × NonEmptyValue)
outcomes_in [] = []
outcomes_in (Frame.RunOutcome number value told ∷ frames) = (number, value) ∷ outcomes_in frames
outcomes_in (frame ∷ frames) = outcomes_in frames

-- each outcome comes behind the request of its run, which is among these or those of frames before it
abbrev pub ComeBehind : List Request → List Frame → Type 0
ComeBehind requests [] = Unit {0}
ComeBehind requests (Frame.RunOutcome number value told ∷ frames) = (runs number requests ≡ true) × ComeBehind requests frames
ComeBehind requests (frame ∷ frames) = ComeBehind (requests ++ request_sent frame) frames

-- what is known of them, where the live attempt has proposed these outcomes, its journal had these arrivals, and these frames are on their
-- way from it
pub record OutcomesStand (events : List Event) (id : Text) (journal : List Arrival) (proposed : List (ℕ × NonEmptyValue)) (coming : List Frame) : Type 0 where
  -- what is on its way was proposed, each once; it was not recorded, and comes behind the request of its run
  pub once : (n : ℕ) → count_proposed n proposed ≤ 1
  pub few : (n : ℕ) → count_proposed n (outcomes_in coming) ≤ count_proposed n proposed
  pub unrecorded : (n : ℕ) → 1 ≤ count_proposed n (outcomes_in coming) → has_arrived (recorded_arrivals events id) n ≡ false
  pub behind : ComeBehind (recorded_requests events id) coming
  -- what was recorded for a run was in the journal, or it was proposed
  pub own : (n : ℕ) → runs n (recorded_requests events id) ≡ true → has_arrived (recorded_arrivals events id) n ≡ true → (has_arrived journal n ≡ true) ⊎ (1 ≤ count_proposed n proposed)

-- what is recorded and what is on its way begins the run
abbrev pub BeginsWithComing : Handler → Invocation → List Arrival → List Event → Text → List Frame → Type 0
BeginsWithComing next given arrivals events id coming = BeginsRun next given arrivals (recorded_requests events id ++ requests_sent coming)

-- an attempt that is begun has proposed nothing
abbrev pub OutcomesBegin : Type 0
OutcomesBegin = (events : List Event) (id : Text) (now : ℕ) → IsAccepted (Event.Begin id now ∷ events) → OutcomesStand (Event.Begin id now ∷ events) id (recorded_arrivals events id) [] []

-- each accepted event leaves them as they stand
abbrev pub OutcomesStay : Type 0
OutcomesStay = (next : Handler) (given : Invocation) (arrivals : List Arrival) (events : List Event) (id : Text) (event : Event) (journal : List Arrival) (proposed : List (ℕ × NonEmptyValue)) (coming coming' : List Frame)
    → IsAccepted (event ∷ events) → begins id event ≡ false → begins_attempt id event ≡ false → PassesOn id event coming coming' → BeginsWithComing next given arrivals events id coming
    → OutcomesStand events id journal proposed coming → OutcomesStand (event ∷ events) id journal proposed coming'

-- a run's outcome that is sent was not recorded, where it has not come to the attempt and was not proposed
abbrev pub OutcomesAreNew : Type 0
OutcomesAreNew = (next : Handler) (given : Invocation) (arrivals : List Arrival) (events : List Event) (id : Text) (journal : List Arrival) (proposed : List (ℕ × NonEmptyValue)) (coming : List Frame)
    (n : ℕ) (value : NonEmptyValue) (told : Bool) → IsAccepted events → BeginsWithComing next given arrivals events id coming
    → runs n (recorded_requests events id ++ requests_sent coming) ≡ true → has_arrived journal n ≡ false → count_proposed n proposed ≤ 0
    → OutcomesStand events id journal proposed coming → OutcomesStand events id journal (proposed ++ (n, value) ∷ []) (coming ++ Frame.RunOutcome n value told ∷ [])

-- frames that propose nothing may follow
abbrev pub OthersFollow : Type 0
OthersFollow = (events : List Event) (id : Text) (journal : List Arrival) (proposed : List (ℕ × NonEmptyValue)) (coming sent : List Frame) → outcomes_in sent ≡ []
    → OutcomesStand events id journal proposed coming → OutcomesStand events id journal proposed (coming ++ sent)

-- no outcome is refused since its run is not open
abbrev pub OutcomesAreOpen : Type 0
OutcomesAreOpen = (events : List Event) (id : Text) (journal : List Arrival) (proposed : List (ℕ × NonEmptyValue)) (coming : List Frame) (n : ℕ) (value : NonEmptyValue) (told : Bool) → IsAccepted events
    → OutcomesStand events id journal proposed (Frame.RunOutcome n value told ∷ coming) → is_run (open_request (entries_of events id) n) ≡ true
