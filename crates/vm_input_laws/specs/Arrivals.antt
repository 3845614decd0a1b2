-- The frames of arrivals are read as these arrivals.
use Rattle.std.specs.Prelude.{◌≡◌, ◌<◌, ◌^◌, ℕ, true, length, List, ◌++◌, Some, Ok}
use Rattle.std.specs.List.{list_any}
use Rattle.protocol_wire.specs.declared.record.TheConstants.{LEVELS}
use Rattle.protocol_types.specs.declared.message_type.MessageType.{MessageType}
use Rattle.protocol_types.proofs.Types.{is_named}
use Rattle.journal_model.specs.declared.notification.NotificationId.{NotificationId}
use Rattle.journal_model.specs.declared.notification.NotificationId.TheVariants.{CompletionId}
use Rattle.journal_model.specs.Notification.{Arrival}
use Rattle.journal_model.specs.Spelling.{frame_bytes, notification_payload}
use Rattle.journal_model.specs.Journal.{Entry, requests_in, asks_for}
use Rattle.journal_model.specs.Attempt.{notification_type}
use Rattle.protocol_controls.specs.Notification.{NotificationFits}
use Rattle.protocol_stream.specs.Frame.{message_of}
use Rattle.protocol_stream.specs.Item.{message, item_at}
use Rattle.protocol_messages.specs.Decodings.{DecodesNotification}
use Rattle.protocol_laws.specs.Records.{notification_record}
use Rattle.vm_machine.specs.MessageKinds.{incoming_of}
use Rattle.vm_machine.specs.declared.incoming.Incoming.TheVariants as incoming

-- each number of its record is within its type, each text is UTF-8, and the length of its payload is one that a header tells
pub record ArrivalFits (arrival : Arrival) : Type 0 where
  pub fits : NotificationFits LEVELS (notification_record arrival)
  pub short : length (notification_payload arrival) < 2 ^ 32

-- a completion is one that a recorded request asks for; signals are asked for by none
abbrev pub IsCompletionAsked : List Entry → NotificationId → Type 0
IsCompletionAsked entries (CompletionId n) = list_any (asks_for n) (requests_in entries) ≡ true
IsCompletionAsked entries _ = Unit {0}

-- what a machine takes for a notification
pub record IsNotificationType (ty : MessageType) : Type 0 where
  pub named : is_named ty ≡ true
  pub kind : incoming_of ty ≡ incoming.Notification

-- The frame of an arrival that fits is the message at the front of its bytes, whatever stands behind it; a machine takes that message for
-- a notification, and it is read as the arrival again.
pub record IsNotified (ty : MessageType) (arrival : Arrival) (rest : List ℕ) : Type 0 where
  pub front : item_at (frame_bytes ty (notification_payload arrival) ++ rest) ≡ Some (message (message_of ty (notification_payload arrival)), rest)
  pub kind : incoming_of ty ≡ incoming.Notification
  pub decoded : DecodesNotification (message_of ty (notification_payload arrival)) (Ok arrival)

abbrev pub ArrivalsReadBack : Type 0
ArrivalsReadBack = (entries : List Entry) (arrival : Arrival) (rest : List ℕ) → IsCompletionAsked entries arrival.id → ArrivalFits arrival → IsNotified (notification_type entries arrival.id) arrival rest
