-- The canonical payloads are those that the definitions give.
use Rattle.std.specs.Prelude.{◌≡◌, ℕ, Some}
use Rattle.journal_model.specs.Notification.{Arrival}
use Rattle.journal_model.specs.declared.notification.NotificationId.{NotificationId}
use Rattle.journal_model.specs.AwaitTree.{AwaitTree}
use Rattle.journal_model.specs.Request.{Request}
use Rattle.journal_model.specs.Spelling.{request_payload, notification_payload, acknowledgement_payload, suspension_payload}
use Rattle.protocol_laws.specs.Commands.{CommandRecord, command_record}
use Rattle.protocol_laws.specs.Requests.{request_told}
use Rattle.protocol_laws.specs.Payloads.{record_payload, notification_record_payload, acknowledgement_record_payload, suspension_record_payload}

abbrev pub RequestsSpelled : Type 0
RequestsSpelled = (request : Request) → record_payload request ≡ request_payload request

abbrev pub NotificationsSpelled : Type 0
NotificationsSpelled = (arrival : Arrival) → notification_record_payload arrival ≡ notification_payload arrival

abbrev pub AcknowledgementsSpelled : Type 0
AcknowledgementsSpelled = (completion : ℕ) → acknowledgement_record_payload completion ≡ acknowledgement_payload completion

abbrev pub SuspensionsSpelled : Type 0
SuspensionsSpelled = (tree : AwaitTree NotificationId) → suspension_record_payload tree ≡ suspension_payload tree

-- the canonical payload of each record that the definitions give one is that one
pub record AreSpelled : Type 0 where
  pub request : RequestsSpelled
  pub notification : NotificationsSpelled
  pub acknowledgement : AcknowledgementsSpelled
  pub suspension : SuspensionsSpelled

-- the record of a request stands for it
abbrev pub RequestsTold : Type 0
RequestsTold = (request : Request) → request_told (command_record request) ≡ Some request

-- a record that stands for a request is that request's record: nothing of it is lost
abbrev pub RecordsTold : Type 0
RecordsTold = (one : CommandRecord) (request : Request) → request_told one ≡ Some request → command_record request ≡ one
