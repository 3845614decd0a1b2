-- Headers: what they say, and the number that their eight bytes spell.
use Rattle.std.specs.Prelude.{ℕ, ◌+◌, ◌*◌, ◌/◌, ◌%◌, ◌^◌, ◌==◌, if◌then◌else◌, Bool, true, false, Option, Some, None, Result, Ok, Err}
use Rattle.protocol_types.specs.declared.message_type.MessageType.{MessageType}
use Rattle.protocol_types.specs.declared.message_type.UnknownMessageType.{UnknownMessageType}
use Rattle.protocol_stream.specs.declared.header.MessageHeader.{MessageHeader}
use Rattle.protocol_types.specs.MessageType.{type_number, type_numbered, allows_ack}

-- the type of the message that follows, and how many bytes its payload has
abbrev pub message_type : MessageHeader → MessageType
message_type header = header.ty

abbrev pub message_length : MessageHeader → ℕ
message_length header = header.length

-- whether an acknowledgement is requested, of a type that says so
abbrev pub requested_ack : MessageHeader → Option Bool
requested_ack header = header.requested_ack

-- the header of this type and length, whose flag is kept where the type allows it
abbrev pub header_of : MessageType → Bool → ℕ → MessageHeader
header_of ty ack len = record { ty = ty; length = len; requested_ack = if allows_ack ty then Some ack else None }

-- the flag stands in the highest bit of the flags
abbrev pub ack_bit : Option Bool → ℕ
ack_bit (Some true) = 2 ^ 47
ack_bit (Some false) = 0
ack_bit None = 0

-- the type in the highest sixteen bits, then sixteen bits of flags, then the length
abbrev pub word_of : MessageHeader → ℕ
word_of header = type_number header.ty * 2 ^ 48 + ack_bit header.requested_ack + header.length

abbrev pub header_typed : ℕ → Result MessageType UnknownMessageType → Result MessageHeader UnknownMessageType
header_typed word (Ok ty) = Ok (header_of ty (word / 2 ^ 47 % 2 == 1) (word % 2 ^ 32))
header_typed word (Err unknown) = Err unknown

-- the header that this number spells; other flags mean nothing
abbrev pub header_in : ℕ → Result MessageHeader UnknownMessageType
header_in word = header_typed word (type_numbered (word / 2 ^ 48))
