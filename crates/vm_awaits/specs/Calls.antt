-- What each call leaves.
use Rattle.std.specs.Prelude.{◌≡◌, ℕ, Bool, true, false, ◌||◌, List, [], ◌∷◌, ◌++◌, Option, Some, None, is_some}
use Rattle.std.specs.List.{list_any}
use Rattle.journal_model.specs.declared.notification.NotificationId.{NotificationId}
use Rattle.journal_model.specs.declared.notification.NotificationId.TheVariants.{CompletionId}
use Rattle.journal_model.specs.declared.notification.NotificationResult.{NotificationResult}
use Rattle.journal_model.specs.declared.options.SignalDelivery.{SignalDelivery}
use Rattle.journal_model.specs.Journal.{completes}
use Rattle.journal_model.specs.Notification.{Arrival}
use Rattle.attempt_model.specs.Results.{Ready, first_waiting_result, ready_after}
use Rattle.vm_awaits.specs.ReadyViews.{none_ready}
use Rattle.vm_awaits.specs.TakenNotifications.{ready_left, slots_left}
use Rattle.vm_awaits.specs.Views.{AsyncResults}

-- nothing has come, and no handle was made
abbrev pub no_results : SignalDelivery → AsyncResults
no_results delivery = record { delivery = delivery; queue = []; ready = none_ready; slots = [] }

-- one more waits in line
abbrev pub with_queued : Arrival → AsyncResults → AsyncResults
with_queued arrival results = record results { queue = results.queue ++ arrival ∷ [] }

-- one more is looked at
abbrev pub with_ready : Arrival → AsyncResults → AsyncResults
with_ready arrival results = record results { ready = ready_after results.delivery results.ready arrival }

-- whether one more stands in line
abbrev pub has_next : List Arrival → Bool
has_next [] = false
has_next (arrival ∷ queue) = true

-- the one that stands first
abbrev pub first_in : List Arrival → Option Arrival
first_in [] = None
first_in (arrival ∷ queue) = Some arrival

-- the first of a line is looked at, if one stands there
abbrev pub LooksAtOne : SignalDelivery → (looked : Bool) → (queue : List Arrival) → Ready → (queue' : List Arrival) → Ready → Type 0
LooksAtOne delivery looked [] ready queue' ready' = (looked ≡ false) × (queue' ≡ []) × (ready' ≡ ready)
LooksAtOne delivery looked (arrival ∷ queue) ready queue' ready' = (looked ≡ true) × (queue' ≡ queue) × (ready' ≡ ready_after delivery ready arrival)

-- the first of these that stand in line is looked at; where none does all stays
abbrev pub looked_at : List Arrival → AsyncResults → AsyncResults
looked_at [] results = results
looked_at (arrival ∷ queue) results = record results { queue = queue; ready = ready_after results.delivery results.ready arrival }

abbrev pub after_look : AsyncResults → AsyncResults
after_look results = looked_at results.queue results

-- whether something has come for a completion, looked at or not
abbrev pub has_come : ℕ → AsyncResults → Bool
has_come n results = list_any (completes n) results.queue || is_some (first_waiting_result (results.ready (CompletionId n)))

-- one more handle
abbrev pub with_handle : NotificationId → AsyncResults → AsyncResults
with_handle id results = record results { slots = results.slots ++ Some id ∷ [] }

-- what waited for a handle is taken
abbrev pub results_after_take : ℕ → Option NotificationResult → AsyncResults → AsyncResults
results_after_take handle taken results =
    record results { ready = ready_left handle taken results.slots results.ready; slots = slots_left handle taken results.slots }
