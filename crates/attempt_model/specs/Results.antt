-- What has come and waits to be taken, what handles stand for, and how an awaited tree is resolved from the line.
use Rattle.std.specs.Prelude.{Bool, true, ℕ, ◌-◌, ◌==◌, nat_lt, if◌then◌else◌, List, [], ◌∷◌, ◌++◌, drop, slice_get, slice_set, Option, Some, None, option_and_then}
use Rattle.std.specs.List.{list_all}
use Rattle.std.specs.Str.{is_utf8}
use Rattle.journal_model.specs.declared.notification.NotificationId.{NotificationId}
use Rattle.journal_model.specs.declared.notification.NotificationResult.{NotificationResult}
use Rattle.journal_model.specs.Notification.{same_id, Arrival, cancel_id}
use Rattle.journal_model.specs.AwaitTree.{AwaitState, AwaitTree, is_awake}
use Rattle.journal_model.specs.declared.options.SignalDelivery.{SignalDelivery}
use Rattle.journal_model.specs.Options.{replaces}
use Rattle.journal_model.specs.History.{cancel_handle}
use Rattle.journal_model.specs.Delivery.{state_of_result}
use Rattle.journal_model.specs.PrunedTrees.{pruned}

-- what waits to be taken of each id, the first one first
abbrev pub Ready : Type 0
Ready = NotificationId → List NotificationResult

-- by handle from 17 on, what it stands for; nothing where its notification was taken
abbrev pub Slots : Type 0
Slots = List (Option NotificationId)

-- a notification is looked at: it waits to be taken; one of a completion, and any where signals overwrite, replaces what waits
abbrev pub ready_after : SignalDelivery → Ready → Arrival → Ready
ready_after delivery ready arrival id =
    if same_id arrival.id id
    then (if replaces delivery id then arrival.result ∷ [] else ready id ++ arrival.result ∷ [])
    else ready id

-- the first that waits
abbrev pub first_waiting_result : List NotificationResult → Option NotificationResult
first_waiting_result [] = None
first_waiting_result (result ∷ results) = Some result

abbrev pub slot_in : Option (Option NotificationId) → Option NotificationId
slot_in None = None
slot_in (Some slot) = slot

-- what a handle stands for
abbrev pub slot_of : Slots → ℕ → Option NotificationId
slot_of slots handle =
    if handle == cancel_handle then Some cancel_id else (if nat_lt handle 17 then None else slot_in (slice_get slots (handle - 17)))

-- the first notification that waits for a handle
abbrev pub waiting_for : Slots → Ready → ℕ → Option NotificationResult
waiting_for slots ready handle = option_and_then (λ id. first_waiting_result (ready id)) (slot_of slots handle)

abbrev pub handle_state : Slots → Ready → ℕ → AwaitState
handle_state slots ready handle = state_of_result (waiting_for slots ready handle)

-- the first that waits of an id is taken
abbrev pub ready_without_first : Ready → Option NotificationId → Ready
ready_without_first ready None id = ready id
ready_without_first ready (Some taken) id = if same_id taken id then drop 1 (ready id) else ready id

-- a handle whose notification was taken stands for nothing, but the one of a cancellation
abbrev pub slots_without : Slots → ℕ → Slots
slots_without slots handle = if handle == cancel_handle then slots else slice_set slots (handle - 17) None

-- how a tree is resolved: awake, or with what is left of it when nothing is left in line
pub data Resolution : Type 0 where
  Awake : (queue : List Arrival) → Ready → Resolution
  Asleep : AwaitTree ℕ → Ready → Resolution

-- one notification a step is looked at, until the tree is awake; what is completed of it is left out at each step
abbrev pub resolution_of : SignalDelivery → Slots → AwaitTree ℕ → List Arrival → Ready → Resolution
resolution_of delivery slots tree [] ready =
    if is_awake tree (handle_state slots ready) then Awake [] ready else Asleep (pruned tree (handle_state slots ready)) ready
resolution_of delivery slots tree (arrival ∷ queue) ready =
    if is_awake tree (handle_state slots ready) then Awake (arrival ∷ queue) ready
    else resolution_of delivery slots (pruned tree (handle_state slots ready)) queue (ready_after delivery ready arrival)

-- what is pushed of several
abbrev pub ready_after_all : SignalDelivery → Ready → List Arrival → Ready
ready_after_all delivery ready [] = ready
ready_after_all delivery ready (arrival ∷ arrivals) = ready_after_all delivery (ready_after delivery ready arrival) arrivals

-- whether a result holds no state key that is not text
abbrev pub are_keys_text : NotificationResult → Bool
are_keys_text (NotificationResult.StateKeys keys) = list_all is_utf8 keys
are_keys_text _ = true
