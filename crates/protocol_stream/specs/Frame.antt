-- Messages as bytes, one after another.
use Rattle.std.specs.Prelude.{◌≡◌, ℕ, ◌^◌, ◌<◌, false, List, ◌++◌, length, is_some}
use Rattle.std.specs.List.{flat_map}
use Rattle.std.specs.Int.{w64, to_be_bytes}
use Rattle.protocol_types.specs.declared.message_type.MessageType.{MessageType}
use Rattle.protocol_stream.specs.declared.decoder.RawMessage.{RawMessage}
use Rattle.protocol_types.specs.MessageType.{allows_ack, IsWireType}
use Rattle.protocol_stream.specs.Header.{message_type, message_length, requested_ack, header_of, word_of}

-- the header, and then the payload
unfoldable pub spelled : RawMessage → List ℕ
spelled message = to_be_bytes w64 (word_of message.header) ++ message.payload

abbrev pub stream : List RawMessage → List ℕ
stream messages = flat_map spelled messages

-- the message of this type and payload, which requests no acknowledgement
abbrev pub message_of : MessageType → List ℕ → RawMessage
message_of ty payload = record { header = header_of ty false (length payload); payload = payload }

-- a message that its spelling stands for
pub record IsFrame (message : RawMessage) : Type 0 where
  pub ty : IsWireType (message_type message.header)
  pub flag : is_some (requested_ack message.header) ≡ allows_ack (message_type message.header)
  pub len : message_length message.header ≡ length message.payload
  pub fits : length message.payload < 2 ^ 32
