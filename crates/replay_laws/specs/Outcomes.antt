-- How the outcomes of runs come to be recorded.
use Rattle.std.specs.Prelude.{◌≡◌, ℕ, ◌==◌, Bool, true, false, List, ◌∷◌, bytes_eq}
use Rattle.std.specs.List.{list_any}
use Rattle.journal_model.specs.Notification.{Text}
use Rattle.journal_model.specs.Request.{Request}
use Rattle.journal_model.specs.Event.{Event, Frame}
use Rattle.journal_model.specs.Journal.{begins, arrivals_in, entries_added, starting_state, entries_of, recorded_requests}
use Rattle.journal_model.specs.Cause.{IsAccepted}
use Rattle.body_laws.specs.BodySimulation.{has_arrived}

-- whether a request is that of a run, for this completion
abbrev pub asks_run : ℕ → Request → Bool
asks_run n (Request.Run m name) = m == n
asks_run n _ = false

abbrev pub runs : ℕ → List Request → Bool
runs n requests = list_any (asks_run n) requests

-- an event that takes a frame in which the invocation's attempt proposes the outcome
abbrev pub TakesOutcome : Text → ℕ → Event → Type 0
TakesOutcome id n (Event.Move other attempt (Frame.RunOutcome k value told)) = (bytes_eq other id ≡ true) × (k ≡ n)
TakesOutcome id n event = ⊥

-- for a run nothing comes but what its attempt has proposed
abbrev pub OutcomesAreTaken : Type 0
OutcomesAreTaken = (events : List Event) (id : Text) (event : Event) (n : ℕ) → IsAccepted (event ∷ events) → begins id event ≡ false → runs n (recorded_requests (event ∷ events) id) ≡ true
    → has_arrived (arrivals_in (entries_added (starting_state events id) events id event (entries_of events id))) n ≡ true → TakesOutcome id n event
