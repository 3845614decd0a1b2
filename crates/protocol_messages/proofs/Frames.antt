-- That what is written is a frame.
use Rattle.std.proofs.Common.{◌≡◌, ℕ, ◌<◌, ◌^◌, Bool, true, false, List, length, Option, Some, None, refl, subst, is_some}
use Rattle.std.specs.Prelude.{if◌then◌else◌, IfSome}
use Rattle.protocol_table.specs.declared.table.RecordType.{RecordType}
use Rattle.protocol_table.specs.declared.table.RecordType.TheVariants as records
use Rattle.protocol_types.specs.declared.message_type.MessageType.{MessageType}
use Rattle.protocol_types.specs.declared.version.Version.{Version}
use Rattle.protocol_types.specs.MessageType.{allows_ack, IsWireType}
use Rattle.protocol_stream.specs.Frame.{IsFrame}
use Rattle.protocol_types.proofs.Types.{named_is_wire}
use Rattle.protocol_messages.specs.RecordMessage.{type_of_record}
use Rattle.protocol_messages.specs.Encodings.{payload_message}

-- The type of each record's messages is one that its number stands for.
wire_types : (t : RecordType) → IfSome (type_of_record t) IsWireType
wire_types records.Failure = tt
wire_types records.FailureMetadata = tt
wire_types records.Future = tt
wire_types records.Header = tt
wire_types records.IdempotentRequestTarget = tt
wire_types records.Notification = tt
wire_types records.StateEntry = tt
wire_types records.StateKeys = tt
wire_types records.Value = tt
wire_types records.Void = tt
wire_types records.WorkflowTarget = tt
wire_types _ = named_is_wire _ refl

pub wire_type : (t : RecordType) (ty : MessageType) → type_of_record t ≡ Some ty → IsWireType ty
wire_type t ty e = subst (λ (o : Option MessageType). IfSome o IsWireType) e (wire_types t)

has_flag : (allowed ack : Bool) → is_some (if allowed then Some ack else None) ≡ allowed
has_flag true ack = refl
has_flag false ack = refl

pub is_frame : (ty : MessageType) (version : Version) (payload : List ℕ) → IsWireType ty → length payload < 2 ^ 32 → IsFrame (payload_message ty version payload)
is_frame ty version payload wire small = record { ty = wire; flag = has_flag (allows_ack ty) _; len = refl; fits = small }
