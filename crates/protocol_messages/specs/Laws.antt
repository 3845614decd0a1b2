-- Laws of whole messages.
use Rattle.std.specs.Prelude.{◌≡◌, ◌<◌, ◌^◌, ◌++◌, ℕ, ℤ, Bool, true, false, List, length, Some, Ok}
use Rattle.protocol_table.specs.declared.table.RecordType.{RecordType}
use Rattle.protocol_table.specs.declared.table.RecordType.TheVariants as records
use Rattle.protocol_wire.specs.Wire.{Field}
use Rattle.protocol_wire.specs.declared.record.TheConstants.{LEVELS}
use Rattle.protocol_wire.specs.Parts.{Part, payload_of}
use Rattle.protocol_records.specs.Suspension.{suspension_of, SuspensionFits}
use Rattle.protocol_records.specs.SuspensionV6.{suspension_v6_of}
use Rattle.protocol_records.specs.declared.suspension.SuspensionMessage.{SuspensionMessage}
use Rattle.protocol_types.specs.declared.message_type.MessageType.{MessageType}
use Rattle.protocol_stream.specs.declared.decoder.RawMessage.{RawMessage}
use Rattle.protocol_types.specs.declared.version.Version.{Version}
use Rattle.protocol_stream.specs.Item.{message, item_at}
use Rattle.protocol_stream.specs.Frame.{spelled, IsFrame}
use Rattle.protocol_messages.specs.RecordMessage.{type_of_record}
use Rattle.protocol_messages.specs.Encodings.{suspends_by_lists, record_message, suspension_parts_as, suspension_message}
use Rattle.protocol_messages.specs.Leaves.{three_lists}
use Rattle.protocol_messages.specs.Decodings.{DecodesTo}

abbrev pub MessagesReadBack : {R : Type 0} → RecordType → (ℕ → List Field → R) → (R → List Part) → (R → Type 0) → Type 0
MessagesReadBack {R} t of parts Fits =
    (one : R) (ty : MessageType) (version : Version) (index : ℤ) (rest : List ℕ) → Fits one → type_of_record t ≡ Some ty → length (payload_of (parts one)) < 2 ^ 32
    → IsFrame (record_message ty version (parts one))
    × (item_at (spelled (record_message ty version (parts one)) ++ rest) ≡ Some (message (record_message ty version (parts one)), rest))
    × DecodesTo t of index (record_message ty version (parts one)) (Ok one)

-- before version 7 a suspension is read as its three lists, then as itself
abbrev pub ReadsSuspension : Bool → ℤ → RawMessage → SuspensionMessage → Type 0
ReadsSuspension true index m one = DecodesTo records.SuspensionV6 suspension_v6_of index m (Ok (three_lists one))
ReadsSuspension false index m one = DecodesTo records.Suspension suspension_of index m (Ok one)

abbrev pub SuspensionsReadBack : Type 0
SuspensionsReadBack =
    (one : SuspensionMessage) (version : Version) (index : ℤ) (rest : List ℕ) → SuspensionFits LEVELS one → length (payload_of (suspension_parts_as (suspends_by_lists version) one)) < 2 ^ 32
    → IsFrame (suspension_message version one)
    × (item_at (spelled (suspension_message version one) ++ rest) ≡ Some (message (suspension_message version one), rest))
    × ReadsSuspension (suspends_by_lists version) index (suspension_message version one) one
