-- Each completion is asked for by one recorded request at most, and comes once, after it was asked for.
use Rattle.std.specs.Prelude.{◌≡◌, true, length, ℕ, ◌+◌, ◌≤◌, ◌==◌, if◌then◌else◌, List, [], ◌∷◌}
use Rattle.std.specs.List.{flat_map, list_any}
use Rattle.journal_model.specs.declared.notification.NotificationId.{NotificationId}
use Rattle.journal_model.specs.declared.notification.NotificationId.TheVariants.{CompletionId}
use Rattle.journal_model.specs.Notification.{Text, Arrival}
use Rattle.journal_model.specs.Request.{Request, completions_asked}
use Rattle.journal_model.specs.Delivery.{results_for}
use Rattle.journal_model.specs.Event.{Event}
use Rattle.journal_model.specs.Journal.{asks_for, recorded_requests, recorded_arrivals}
use Rattle.journal_model.specs.Cause.{IsAccepted}

-- how often a number is in a list
abbrev pub count_of : ℕ → List ℕ → ℕ
count_of n [] = 0
count_of n (m ∷ ms) = (if m == n then 1 else 0) + count_of n ms

-- the numbers of the completions that requests ask for, and of those that have come
abbrev pub numbers_asked : List Request → List ℕ
numbers_asked = flat_map completions_asked

abbrev pub completion_numbers_of : NotificationId → List ℕ
completion_numbers_of (CompletionId n) = n ∷ []
completion_numbers_of _ = []

abbrev pub numbers_come : List Arrival → List ℕ
numbers_come = flat_map (λ (arrival : Arrival). completion_numbers_of arrival.id)

-- each number is asked for once at most, and comes as often at most
pub record AreOnce (requests : List Request) (arrivals : List Arrival) : Type 0 where
  pub asked : (n : ℕ) → count_of n (numbers_asked requests) ≤ 1
  pub come : (n : ℕ) → count_of n (numbers_come arrivals) ≤ count_of n (numbers_asked requests)

-- so it is with all that is recorded of an invocation
abbrev pub CompletionsRecordedOnce : Type 0
CompletionsRecordedOnce = (events : List Event) (id : Text) → IsAccepted events → AreOnce (recorded_requests events id) (recorded_arrivals events id)

-- for each number there is one result at most, and where there is one a request asks for it
pub record ComeWhenAsked (requests : List Request) (arrivals : List Arrival) : Type 0 where
  pub once : (n : ℕ) → length (results_for arrivals (CompletionId n)) ≤ 1
  pub asked : (n : ℕ) → 1 ≤ length (results_for arrivals (CompletionId n)) → list_any (asks_for n) requests ≡ true

-- so it is with all that is recorded of an invocation
abbrev pub CompletionsComeWhenAsked : Type 0
CompletionsComeWhenAsked = (events : List Event) (id : Text) → IsAccepted events → ComeWhenAsked (recorded_requests events id) (recorded_arrivals events id)
