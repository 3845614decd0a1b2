-- What is made ready of a delivery: what the message brings, and that its row goes.
use Rattle.std.specs.Prelude.{◌≡◌, ℕ, ◌++◌, Bool, true, false, List, [], ◌∷◌, Option, Some, None, Result, Ok, Err}
use Rattle.journal_model.specs.Notification.{Text}
use Rattle.journal_model.specs.Event.{Event}
use Rattle.delivery_laws.specs.Message.{Message, message_at}
use Rattle.delivery_laws.specs.Outbox.{Outbox, OwedRow}
use Rattle.delivery_laws.specs.Log.{Kept}
use Rattle.delivery_laws.specs.Delivery.{bring, DeliveryRules, signal_brought, value_brought}
use Rattle.store_tables.specs.declared.row.Write.{Write}
use Rattle.store_model.specs.Writes.{writes_of}
use Rattle.store_refusals.specs.declared.refusal.Refusal.{Refusal}
use Rattle.store_refusals.specs.declared.refusal.Refusal.TheVariants as refusal
use Rattle.store_refusals.specs.RefusalConditions.{IsRefused}
use Rattle.store_deliveries.specs.StoredOutbox.{row_of_number}
use Rattle.store_deliveries.specs.PreparedRows.{drop_write}
use Rattle.store_deliveries.specs.declared.delivery.PreparedDelivery.{PreparedDelivery}
use Rattle.store_deliveries.specs.declared.delivery.PreparedDelivery.TheVariants as delivery
use Rattle.store_deliveries.specs.declared.recorded.RecordedMessage.{RecordedMessage}
use Rattle.store_deliveries.specs.declared.recorded.RecordedMessage.TheVariants as recorded

abbrev pub kept_with : List Event → Outbox → Kept
kept_with events outbox = record { events = events; outbox = outbox }

-- a refusal for what was accepted, and for no circumstance
abbrev pub is_cause : Refusal → Bool
is_cause (refusal.Cause cause) = true
is_cause _ = false

-- what events write that come one behind another, the last one first
abbrev pub writes_of_all : List Event → List Event → List Write
writes_of_all events [] = []
writes_of_all events (event ∷ more) = writes_of_all events more ++ writes_of (more ++ events) event

-- what a message brings that the code holds
abbrev pub brought_by : DeliveryRules → List Event → RecordedMessage → List Event
brought_by rules events (recorded.Tells target key result) = signal_brought events target key result
brought_by rules events (recorded.Completes text result) = value_brought events (rules.awakeable text) result

-- the message that has the row is recorded; this is what it brings, whichever id it may give, and that the row goes
pub record IsBrought (rules : DeliveryRules) (kept : Kept) (row : OwedRow) (writes : List Write) : Type 0 where
  pub message : Message
  pub recorded : message_at kept.events row.sender row.place ≡ Some message
  pub brought : List Event
  pub brings : (id : Text) → bring rules kept row.sender id message ≡ Some brought
  pub written : writes ≡ writes_of_all kept.events brought ++ drop_write row.number ∷ []

abbrev pub IsReady : DeliveryRules → Kept → OwedRow → PreparedDelivery → Type 0
IsReady rules kept row (delivery.Ready writes) = IsBrought rules kept row writes.items
IsReady rules kept row delivery.Settled = ⊥

abbrev pub IsDeliveryReady : DeliveryRules → Kept → Option OwedRow → PreparedDelivery → Type 0
IsDeliveryReady rules kept None made = made ≡ delivery.Settled
IsDeliveryReady rules kept (Some row) made = IsReady rules kept row made

-- a circumstance alone keeps a delivery from being made ready
abbrev pub PreparesDelivery : DeliveryRules → Kept → ℕ → Result PreparedDelivery Refusal → Type 0
PreparesDelivery rules kept number (Ok made) = IsDeliveryReady rules kept (row_of_number kept.outbox number) made
PreparesDelivery rules kept number (Err why) = IsRefused [] why
