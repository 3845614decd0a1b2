-- The canonical payloads of these records.
use Rattle.std.specs.Prelude.{ℕ, List, Some}
use Rattle.protocol_wire.specs.Parts.{Part, payload_of}
use Rattle.journal_model.specs.Notification.{Arrival}
use Rattle.journal_model.specs.declared.notification.NotificationId.{NotificationId}
use Rattle.journal_model.specs.AwaitTree.{AwaitTree}
use Rattle.journal_model.specs.Request.{Request}
use Rattle.protocol_stream.specs.Records.{future_record}
use Rattle.protocol_records.specs.Suspension.{suspension_parts}
use Rattle.protocol_controls.specs.ProposeRunCompletionAck.{propose_run_completion_ack_parts}
use Rattle.protocol_controls.specs.Notification.{notification_parts}
use Rattle.protocol_laws.specs.Records.{notification_record}
use Rattle.protocol_laws.specs.Commands.{command_record, command_parts}

-- the parts of the record of a request
abbrev pub record_parts : Request → List Part
record_parts request = command_parts (command_record request)

-- its payload
abbrev pub record_payload : Request → List ℕ
record_payload request = payload_of (record_parts request)

abbrev pub notification_record_payload : Arrival → List ℕ
notification_record_payload arrival = payload_of (notification_parts (notification_record arrival))

abbrev pub acknowledgement_record_payload : ℕ → List ℕ
acknowledgement_record_payload completion = payload_of (propose_run_completion_ack_parts (record { completion_id = completion }))

abbrev pub suspension_record_payload : AwaitTree NotificationId → List ℕ
suspension_record_payload tree = payload_of (suspension_parts (record { awaiting_on = Some (future_record tree) }))
