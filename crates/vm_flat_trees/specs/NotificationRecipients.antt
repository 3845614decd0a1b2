-- Which handles a notification is for, and what it brings them.
use Rattle.std.specs.Prelude.{ℕ, Bool, false, Option, Some, None}
use Rattle.journal_model.specs.declared.notification.NotificationId.{NotificationId}
use Rattle.journal_model.specs.Notification.{same_id, Arrival}
use Rattle.journal_model.specs.AwaitTree.{AwaitState}
use Rattle.journal_model.specs.Delivery.{state_of_result}
use Rattle.attempt_model.specs.Results.{Slots, slot_of}
use Rattle.vm_flat_trees.specs.NotificationDelivery.{brought}

-- whether a notification of this id is for a handle that stands for this
abbrev pub is_for : NotificationId → Option NotificationId → Bool
is_for id None = false
is_for id (Some slot) = same_id id slot

-- the handles that wait for it
abbrev pub waits_for : Slots → NotificationId → (handle : ℕ) → Bool
waits_for slots id handle = is_for id (slot_of slots handle)

-- what it brings them
abbrev pub brought_by : Slots → Arrival → ℕ → AwaitState
brought_by slots arrival = brought (waits_for slots arrival.id) (state_of_result (Some arrival.result))
