-- The children that a cancellation is passed on to, and what is known of them.
use Rattle.std.specs.Prelude.{true, false, ℕ, Bool, if◌then◌else◌, List, [], ◌∷◌, ◌++◌, Option, Some, None, option_map}
use Rattle.journal_model.specs.declared.notification.NotificationId.{NotificationId}
use Rattle.journal_model.specs.declared.notification.NotificationId.TheVariants.{CompletionId}
use Rattle.journal_model.specs.Notification.{same_id, Arrival}
use Rattle.journal_model.specs.Value.{as_taken}
use Rattle.journal_model.specs.Request.{Request}
use Rattle.journal_model.specs.declared.options.SignalDelivery.{SignalDelivery}
use Rattle.journal_model.specs.declared.value.Value.{Value}
use Rattle.journal_model.specs.Delivery.{or_else}
use Rattle.journal_model.specs.Await.{cancel_request}
use Rattle.attempt_model.specs.Results.{Ready, ready_after, first_waiting_result}

-- a child, by the completion that gives its invocation id, with what was taken of it
pub record Child : Type 0 where
  pub completion : ℕ
  pub taken : Option Value

abbrev pub new_child : ℕ → Child
new_child n = record { completion = n; taken = None }

-- a child of which a notification was taken
abbrev pub child_with_value : Option NotificationId → Value → Child → Child
child_with_value None value child = child
child_with_value (Some id) value child = if same_id id (CompletionId child.completion) then record { completion = child.completion; taken = Some value } else child

-- what is known of a child: what was taken, or else what waits
abbrev pub child_value : Ready → Child → Option Value
child_value ready child = or_else child.taken (option_map as_taken (first_waiting_result (ready (CompletionId child.completion))))

abbrev pub is_id : Value → Bool
is_id (Value.InvocationId id) = true
is_id _ = false

-- what is known of the children, in their order: each has its invocation id, or the first that has none is not known, or is something else
pub data ChildrenState : Type 0 where
  AreIds : ChildrenState
  IsUnknown : ℕ → ChildrenState
  IsNoId : ChildrenState

abbrev pub with_child : Option Value → ℕ → ChildrenState → ChildrenState
with_child None n others = IsUnknown n
with_child (Some (Value.InvocationId id)) n others = others
with_child (Some _) n others = IsNoId

abbrev pub children_state : Ready → List Child → ChildrenState
children_state ready [] = AreIds
children_state ready (child ∷ children) = with_child (child_value ready child) child.completion (children_state ready children)

-- whether a notification of an id may be taken: of a child's it is to be an invocation id
abbrev pub may_take : Option NotificationId → Value → Child → Bool
may_take None value child = true
may_take (Some id) value child = if same_id id (CompletionId child.completion) then is_id value else true

-- one request for each of the children
abbrev pub cancel_requests_for : Ready → List Child → List Request
cancel_requests_for ready [] = []
cancel_requests_for ready (child ∷ children) = cancel_request (child_value ready child) ++ cancel_requests_for ready children

-- one notification a step is looked at, until all children are known; the first that is not is waited for
pub data ChildrenOutcome : Type 0 where
  AllKnown : (queue : List Arrival) → Ready → ChildrenOutcome
  FirstUnknown : ℕ → Ready → ChildrenOutcome
  OneIsNoId : ChildrenOutcome

abbrev pub outcome_by : ChildrenState → (known : ChildrenOutcome) → (unknown : ℕ → ChildrenOutcome) → ChildrenOutcome
outcome_by AreIds known unknown = known
outcome_by (IsUnknown n) known unknown = unknown n
outcome_by IsNoId known unknown = OneIsNoId

abbrev pub children_outcome : SignalDelivery → List Child → List Arrival → Ready → ChildrenOutcome
children_outcome delivery children [] ready = outcome_by (children_state ready children) (AllKnown [] ready) (λ n. FirstUnknown n ready)
children_outcome delivery children (arrival ∷ queue) ready =
    outcome_by (children_state ready children) (AllKnown (arrival ∷ queue) ready) (λ n. children_outcome delivery children queue (ready_after delivery ready arrival))
