-- What the arrivals of an invocation are, by what was asked for.
use Rattle.std.specs.Prelude.{◌≡◌, ℕ, Bool, true, List}
use Rattle.std.specs.List.{list_any, list_all}
use Rattle.std.specs.Str.{is_utf8}
use Rattle.journal_model.specs.declared.notification.NotificationId.TheVariants.{CompletionId}
use Rattle.journal_model.specs.Notification.{Arrival}
use Rattle.journal_model.specs.Request.{Request}
use Rattle.journal_model.specs.Delivery.{results_for}
use Rattle.journal_model.specs.Cause.{is_invocation_id, keys_of}
use Rattle.journal_model.specs.Run.{Handler, Invocation, run_requests}
use Rattle.attempt_model.specs.Results.{are_keys_text}
use Rattle.attempt_model.specs.Attempts.{gives_id}

-- for a call's and a send's invocation id nothing but invocation ids has come
abbrev pub GiveIds : List Request → List Arrival → Type 0
GiveIds requests arrivals = (n : ℕ) → list_any (gives_id n) requests ≡ true → list_all is_invocation_id (results_for arrivals (CompletionId n)) ≡ true

-- state keys that have come are text
abbrev pub keys_are_text : List Arrival → Bool
keys_are_text arrivals = list_all (λ arrival. are_keys_text arrival.result) arrivals

-- requests ask for state, and change it, by keys that are text
abbrev pub are_by_text : List Request → Bool
are_by_text requests = list_all (λ request. list_all is_utf8 (keys_of request)) requests

-- so do those of so many calls of the run
abbrev pub AsksByText : Handler → Invocation → List Arrival → (calls : ℕ) → Type 0
AsksByText next given arrivals calls = are_by_text (run_requests next given arrivals calls) ≡ true
