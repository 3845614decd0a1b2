-- What reading a message's payload answers.
use Rattle.std.specs.Prelude.{◌≡◌, ◌≢◌, ℕ, ℤ, Bool, true, false, List, Some, None, Result, Ok, Err}
use Rattle.protocol_table.specs.declared.table.RecordType.{RecordType}
use Rattle.protocol_table.specs.declared.table.RecordType.TheVariants as records
use Rattle.protocol_wire.specs.Wire.{Field}
use Rattle.protocol_wire.specs.Fields.{fields}
use Rattle.protocol_wire.specs.Check.{payload_fault}
use Rattle.protocol_wire.specs.DecodingAnswers.{IsRead}
use Rattle.protocol_wire.specs.declared.record.TheConstants.{LEVELS}
use Rattle.protocol_wire.specs.declared.check.Fault.{Fault}
use Rattle.protocol_controls.specs.Notification.{notification_of}
use Rattle.journal_model.specs.declared.notification.Notification.{Notification}
use Rattle.protocol_types.specs.declared.message_type.MessageType.{MessageType}
use Rattle.protocol_types.specs.declared.message_type.MessageType.TheVariants.{CustomEntry}
use Rattle.protocol_stream.specs.declared.decoder.RawMessage.{RawMessage}
use Rattle.protocol_stream.specs.declared.decoder.DecodingError.{DecodingError}
use Rattle.protocol_stream.specs.declared.decoder.DecodingError.TheVariants.{DecodeMessage, UnexpectedMessageType, MissingField, OutOfMemory}
use Rattle.protocol_stream.specs.Header.{message_type}
use Rattle.protocol_messages.specs.RecordMessage.{type_of_record}
use Rattle.protocol_messages.specs.NotificationContent.{notification_told}

-- this is wrong with the payload, and the message is of this type
pub record IsBad (t : RecordType) (m : RawMessage) (ty : MessageType) (fault : Fault) : Type 0 where
  pub its_type : ty ≡ message_type m.header
  pub is_wrong : payload_fault LEVELS t m.payload ≡ Some fault

-- The payload as this record, where nothing is wrong with it.
abbrev pub ReadsPayload : {R : Type 0} → RecordType → (ℕ → List Field → R) → RawMessage → Result R DecodingError → Type 0
ReadsPayload t of m (Ok r) = IsRead LEVELS t of m.payload r
ReadsPayload t of m (Err (DecodeMessage ty fault)) = IsBad t m ty fault
ReadsPayload t of m (Err OutOfMemory) = Unit {0}
ReadsPayload t of m (Err _) = ⊥

-- whether a type is no custom entry
abbrev pub has_name : MessageType → Bool
has_name (CustomEntry number) = false
has_name _ = true

-- a type is the one that is asked for, or else both are told
abbrev pub IsExpected : MessageType → MessageType → ℤ → Result (Unit {0}) DecodingError → Type 0
IsExpected expected actual index (Ok done) = actual ≡ expected
IsExpected expected actual index (Err (UnexpectedMessageType asked found told)) = (asked ≡ expected) × (found ≡ actual) × (actual ≢ expected) × (told ≡ index)
IsExpected expected actual index (Err _) = ⊥

-- the message is of the type that the record has
abbrev pub HasItsType : RecordType → RawMessage → Type 0
HasItsType t m = type_of_record t ≡ Some (message_type m.header)

-- the message is of another type than the record has
pub record IsOtherType (t : RecordType) (m : RawMessage) (index : ℤ) (expected actual : MessageType) (told : ℤ) : Type 0 where
  pub is_expected : type_of_record t ≡ Some expected
  pub is_there : actual ≡ message_type m.header
  pub other : actual ≢ expected
  pub at : told ≡ index

-- Read are the messages of the record's type with whose payload nothing is wrong, to the payload's meaning. No two answers
-- but want of memory hold of one message.
abbrev pub DecodesTo : {R : Type 0} → RecordType → (ℕ → List Field → R) → ℤ → RawMessage → Result R DecodingError → Type 0
DecodesTo t of index m (Ok r) = HasItsType t m × IsRead LEVELS t of m.payload r
DecodesTo t of index m (Err (UnexpectedMessageType expected actual told)) = IsOtherType t m index expected actual told
DecodesTo t of index m (Err (DecodeMessage ty fault)) = HasItsType t m × IsBad t m ty fault
DecodesTo t of index m (Err OutOfMemory) = Unit {0}
DecodesTo t of index m (Err _) = ⊥

-- nothing is wrong with the payload as a notification's
abbrev pub IsWellFormed : RawMessage → Type 0
IsWellFormed m = payload_fault LEVELS records.Notification m.payload ≡ None

-- Read are the payloads with which nothing is wrong and which have an id and a result, to their meaning. No two answers but
-- want of memory hold of one payload.
abbrev pub DecodesNotification : RawMessage → Result Notification DecodingError → Type 0
DecodesNotification m (Ok notification) = IsWellFormed m × (notification_told (notification_of LEVELS (fields m.payload)) ≡ Ok notification)
DecodesNotification m (Err (MissingField field)) = IsWellFormed m × (notification_told (notification_of LEVELS (fields m.payload)) ≡ Err field)
DecodesNotification m (Err (DecodeMessage ty fault)) = IsBad records.Notification m ty fault
DecodesNotification m (Err OutOfMemory) = Unit {0}
DecodesNotification m (Err _) = ⊥
