-- What a caller is told: the recorded answer of an invocation that is closed. It stays until the invocation is forgotten.
use Rattle.std.specs.Prelude.{◌≡◌, Bool, false, not, ◌&&◌, ◌||◌, if◌then◌else◌, List, [], ◌∷◌, ◌++◌, Option, Some, None, is_some}
use Rattle.journal_model.specs.Notification.{Text}
use Rattle.journal_model.specs.declared.notification.NotificationResult.{NotificationResult}
use Rattle.journal_model.specs.declared.value.NonEmptyValue.{NonEmptyValue}
use Rattle.journal_model.specs.Value.{result_of_value}
use Rattle.journal_model.specs.Event.{Event}
use Rattle.journal_model.specs.Journal.{invocation_begun, is_open, recorded_answer}
use Rattle.journal_laws.specs.Forgetting.{is_among}
use Rattle.delivery_laws.specs.Delivery.{DeliveryRules}
use Rattle.delivery_laws.specs.Log.{Logged, Forgot, events_of}
use Rattle.delivery_laws.specs.Posted.{IsPosted}

-- an invocation that ended without an output answers nothing
abbrev pub as_result : Option NonEmptyValue → NotificationResult
as_result None = NotificationResult.Value []
as_result (Some value) = result_of_value value

-- whether an invocation was begun, and is closed
abbrev pub is_over : List Event → Text → Bool
is_over events id = is_some (invocation_begun events id) && not (is_open events id)

-- what is told of an invocation to whom awaits it; nothing while it is open
abbrev pub answer_told : List Event → Text → Option NotificationResult
answer_told events id = if is_over events id then Some (as_result (recorded_answer events id)) else None

abbrev pub is_forgotten : List Logged → Text → Bool
is_forgotten [] id = false
is_forgotten (Forgot ids ∷ log) id = is_among ids id || is_forgotten log id
is_forgotten (item ∷ log) id = is_forgotten log id

-- whatever comes later, what was told is what is recorded
abbrev pub AnswersStay : Type 0
AnswersStay = (rules : DeliveryRules) (later log : List Logged) (id : Text) (result : NotificationResult) → IsPosted rules (later ++ log)
    → is_forgotten later id ≡ false → answer_told (events_of log) id ≡ Some result → answer_told (events_of (later ++ log)) id ≡ Some result
