-- What taking leaves.
use Rattle.std.specs.Prelude.{ℕ, Option, Some, None}
use Rattle.journal_model.specs.declared.notification.NotificationResult.{NotificationResult}
use Rattle.attempt_model.specs.Results.{Ready, Slots, slot_of, ready_without_first, slots_without}

-- what was taken of a handle is gone, and so is what the handle stood for; where nothing waited all stays
abbrev pub ready_left : ℕ → Option NotificationResult → Slots → Ready → Ready
ready_left handle None slots ready = ready
ready_left handle (Some taken) slots ready = ready_without_first ready (slot_of slots handle)

abbrev pub slots_left : ℕ → Option NotificationResult → Slots → Slots
slots_left handle None slots = slots
slots_left handle (Some taken) slots = slots_without slots handle
