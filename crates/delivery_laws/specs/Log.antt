-- A log of what was found, of what came, of what was delivered and of what was forgotten. Each of its items but the first is one transaction, so
-- that a kill leaves the log as it was before an item, or behind it.
use Rattle.std.specs.Prelude.{ℕ, suc, Bool, false, not, ◌&&◌, ◌||◌, if◌then◌else◌, List, [], ◌∷◌, ◌++◌, is_some}
use Rattle.journal_model.specs.Notification.{Text}
use Rattle.journal_model.specs.Event.{Event}
use Rattle.journal_laws.specs.Forgetting.{without_all, is_among}
use Rattle.delivery_laws.specs.Message.{message_at}
use Rattle.delivery_laws.specs.Outbox.{OwedRow, Outbox, is_row_of, no_messages, rows_put, with_rows, without_number}

-- What a file had accepted whose host delivered by itself: nothing of it is owed. Behind that an event that was asked for; a row that was delivered,
-- with the events that this brought; or invocations that were forgotten.
pub data Logged : Type 0 where
  Found : (events : List Event) → Logged
  Came : Event → Logged
  Delivered : OwedRow → (brought : List Event) → Logged
  Forgot : (ids : List Text) → Logged

-- the accepted events, and the outbox
pub record Kept : Type 0 where
  pub events : List Event
  pub outbox : Outbox

abbrev pub with_event : Event → List OwedRow → Kept → Kept
with_event event rows kept = record { events = event ∷ kept.events; outbox = with_rows rows kept.outbox }

-- an event puts the row of its request, and a delivery drops its own
abbrev pub kept_after : Logged → Kept → Kept
kept_after (Found events) kept = record { events = events; outbox = no_messages }
kept_after (Came event) kept = with_event event (rows_put kept.events (suc kept.outbox.given) event) kept
kept_after (Delivered row brought) kept = record { events = brought ++ kept.events; outbox = without_number row.number kept.outbox }
kept_after (Forgot ids) kept = record { events = without_all ids kept.events; outbox = kept.outbox }

abbrev pub kept_of : List Logged → Kept
kept_of [] = record { events = []; outbox = no_messages }
kept_of (item ∷ log) = kept_after item (kept_of log)

abbrev pub events_of : List Logged → List Event
events_of log = (kept_of log).events

abbrev pub outbox_of : List Logged → Outbox
outbox_of log = (kept_of log).outbox

-- how often a message was delivered; of a sender that is forgotten nothing is left, and its id may be another's
abbrev pub times_delivered : List Logged → Text → ℕ → ℕ
times_delivered [] sender place = 0
times_delivered (Found events ∷ log) sender place = 0
times_delivered (Came event ∷ log) sender place = times_delivered log sender place
times_delivered (Delivered row brought ∷ log) sender place =
    if is_row_of sender place row then suc (times_delivered log sender place) else times_delivered log sender place
times_delivered (Forgot ids ∷ log) sender place = if is_among ids sender then 0 else times_delivered log sender place

abbrev pub is_delivered : List Logged → Text → ℕ → Bool
is_delivered [] sender place = false
is_delivered (Found events ∷ log) sender place = false
is_delivered (Came event ∷ log) sender place = is_delivered log sender place
is_delivered (Delivered row brought ∷ log) sender place = is_row_of sender place row || is_delivered log sender place
is_delivered (Forgot ids ∷ log) sender place = not (is_among ids sender) && is_delivered log sender place

-- whether a message is among what was found
abbrev pub is_found : List Logged → Text → ℕ → Bool
is_found [] sender place = false
is_found (Found events ∷ log) sender place = is_some (message_at events sender place)
is_found (Came event ∷ log) sender place = is_found log sender place
is_found (Delivered row brought ∷ log) sender place = is_found log sender place
is_found (Forgot ids ∷ log) sender place = not (is_among ids sender) && is_found log sender place

abbrev pub is_settled : List Logged → Text → ℕ → Bool
is_settled log sender place = is_found log sender place || is_delivered log sender place

-- what is owed: it is recorded, was not found and was not delivered; nothing of the target is looked at
abbrev pub owes : List Logged → Text → ℕ → Bool
owes log sender place = is_some (message_at (events_of log) sender place) && not (is_settled log sender place)
