-- What the first arrival of each id has come to.
use Rattle.std.specs.Prelude.{◌≡◌, List, Option, Some, None, if◌then◌else◌, unwrap_or, option_map, nat_eq, bytes_eq}
use Rattle.indexmap.specs.IndexMap.{get}
use Rattle.journal_model.specs.Notification.{same_id, Arrival}
use Rattle.journal_model.specs.declared.notification.NotificationId.{NotificationId}
use Rattle.journal_model.specs.declared.notification.NotificationId.TheVariants.{CompletionId, SignalId, SignalName}
use Rattle.journal_model.specs.declared.notification.NotificationResult.{NotificationResult}
use Rattle.journal_model.specs.AwaitTree as Trees
use Rattle.journal_model.specs.Delivery.{state_of_result}
use Rattle.journal_model.specs.Attempt.{first_result}
use Rattle.protocol_trees.specs.declared.tree.AwaitState.{AwaitState}
use Rattle.protocol_trees.specs.declared.tree.AwaitState.TheVariants as states
use Rattle.store_frames.specs.declared.first.FirstArrivals.{FirstArrivals}

-- what a result comes to
abbrev pub await_state_of : NotificationResult → AwaitState
await_state_of (NotificationResult.Failure failure) = states.Failed
await_state_of _ = states.Succeeded

abbrev pub or_pending : Option AwaitState → AwaitState
or_pending None = states.Pending
or_pending (Some state) = state

-- what the first arrival of an id came to, if one has come
abbrev pub first_state : FirstArrivals → NotificationId → Option AwaitState
first_state first (CompletionId n) = get nat_eq first.completions n
first_state first (SignalId n) = get nat_eq first.signals n
first_state first (SignalName name) = get bytes_eq first.names name

-- one more arrival of an id, which came to this
abbrev pub IsPut : (NotificationId → Option AwaitState) → NotificationId → AwaitState → (NotificationId → Option AwaitState) → Type 0
IsPut before id state after = (other : NotificationId) → after other ≡ (if same_id id other then Some (unwrap_or (before id) state) else before other)

-- these arrivals have come
abbrev pub AreFirst : FirstArrivals → List Arrival → Type 0
AreFirst first arrivals = (id : NotificationId) → first_state first id ≡ option_map await_state_of (first_result arrivals id)

-- the states of leaves under these arrivals
abbrev pub arrived_state : List Arrival → NotificationId → Trees.AwaitState
arrived_state arrivals id = state_of_result (first_result arrivals id)
