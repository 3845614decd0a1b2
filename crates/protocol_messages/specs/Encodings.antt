-- The message that a record is written as, and what an encoder answers.
use Rattle.std.specs.Prelude.{◌≡◌, ◌↔◌, ◌≤◌, ◌^◌, ℕ, Bool, true, false, List, length, Option, Some, None, Result, Err, IfOk}
use Rattle.protocol_table.specs.declared.table.RecordType.{RecordType}
use Rattle.protocol_wire.specs.Parts.{Part, payload_of}
use Rattle.protocol_records.specs.Suspension.{suspension_parts}
use Rattle.protocol_records.specs.SuspensionV6.{suspension_v6_parts}
use Rattle.protocol_records.specs.declared.suspension.SuspensionMessage.{SuspensionMessage}
use Rattle.protocol_types.specs.declared.message_type.MessageType.{MessageType}
use Rattle.protocol_types.specs.declared.message_type.MessageType.TheVariants as messages
use Rattle.protocol_stream.specs.declared.decoder.RawMessage.{RawMessage}
use Rattle.protocol_stream.specs.declared.encoder.EncodingError.{EncodingError}
use Rattle.protocol_stream.specs.declared.encoder.EncodingError.TheVariants.{PayloadTooLong}
use Rattle.protocol_types.specs.declared.version.Version.{Version}
use Rattle.protocol_types.specs.declared.feature.Feature.TheVariants.{Acknowledgement, AwaitTree}
use Rattle.protocol_types.specs.Feature.{has_feature, lacks_feature}
use Rattle.protocol_types.specs.Version.{version_number}
use Rattle.protocol_stream.specs.Header.{header_of}
use Rattle.protocol_stream.specs.Frame.{spelled}
use Rattle.protocol_messages.specs.RecordMessage.{type_of_record}
use Rattle.protocol_messages.specs.Leaves.{three_lists}

-- the message of this type and payload; a version that has acknowledgements requests one, of a type that says so
abbrev pub payload_message : MessageType → Version → List ℕ → RawMessage
payload_message ty version payload = record { header = header_of ty (has_feature (version_number version) Acknowledgement) (length payload); payload = payload }

-- its payload is the canonical spelling of these parts
abbrev pub record_message : MessageType → Version → List Part → RawMessage
record_message ty version parts = payload_message ty version (payload_of parts)

-- the type of a record that has one
abbrev pub type_or_end : Option MessageType → MessageType
type_or_end None = messages.End
type_or_end (Some ty) = ty

-- the message of a record that has a type, in any version
abbrev pub plain_message : RecordType → Version → List Part → RawMessage
plain_message t version parts = record_message (type_or_end (type_of_record t)) version parts

-- three lists, or a tree
abbrev pub suspension_parts_as : Bool → SuspensionMessage → List Part
suspension_parts_as true one = suspension_v6_parts (three_lists one)
suspension_parts_as false one = suspension_parts one

-- before there were trees a suspension is three lists
abbrev pub suspends_by_lists : Version → Bool
suspends_by_lists version = lacks_feature (version_number version) AwaitTree

abbrev pub suspension_message : Version → SuspensionMessage → RawMessage
suspension_message version one = record_message messages.Suspension version (suspension_parts_as (suspends_by_lists version) one)

-- That the length of the payload does not fit the 32 bits that the header has for it is answered exactly where it does not;
-- otherwise the frame, unless memory was refused.
abbrev pub EncodesTo : RawMessage → Result (List ℕ) EncodingError → Type 0
EncodesTo m answer = ((answer ≡ Err PayloadTooLong) ↔ (2 ^ 32 ≤ length m.payload)) × IfOk answer (λ frame. frame ≡ spelled m)
