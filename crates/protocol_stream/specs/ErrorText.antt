-- What errors of bytes print.
use Rattle.std.specs.Prelude.{ℕ, ℤ, ◌/◌, ◌%◌, false, List, [], ◌∷◌, ◌++◌, codes}
use Rattle.std.specs.Fmt.{signed_decimal}
use Rattle.protocol_types.specs.Texts.{hex_byte}
use Rattle.protocol_types.specs.TypeText.{type_text}
use Rattle.protocol_types.specs.declared.message_type.MessageType.{MessageType}
use Rattle.protocol_wire.specs.declared.check.Fault.{Fault}
use Rattle.protocol_wire.specs.declared.check.Fault.TheVariants.{BadPayload, TooDeep}
use Rattle.protocol_stream.specs.FieldText.{field_text}
use Rattle.protocol_stream.specs.declared.decoder.DecodingError.{DecodingError}
use Rattle.protocol_stream.specs.declared.decoder.DecodingError.TheVariants.{UnknownMessageType, DecodeMessage, UnexpectedMessageType, MissingField, OutOfMemory}
use Rattle.protocol_stream.specs.declared.decoder.NotificationField.{NotificationField}
use Rattle.protocol_stream.specs.declared.encoder.EncodingError.{EncodingError}
use Rattle.protocol_stream.specs.declared.encoder.EncodingError.TheVariants as unsent

-- where memory was refused
abbrev pub no_memory_text : List ℕ
no_memory_text = codes "out of memory"

-- a frame that 32 bits do not measure
abbrev pub too_long_text : List ℕ
too_long_text = codes "a payload of more than 4294967295 bytes"

abbrev pub encoding_text : EncodingError → List ℕ
encoding_text unsent.PayloadTooLong = too_long_text
encoding_text unsent.OutOfMemory = no_memory_text

-- the number of a header that means no type, in four digits
unfoldable pub unknown_type_text : ℕ → List ℕ
unknown_type_text number = codes "unknown message type 0x" ++ hex_byte (number / 256) ++ hex_byte (number % 256)

abbrev pub payload_fault_text : Fault → List ℕ
payload_fault_text BadPayload = codes "its bytes are no fields of that message"
payload_fault_text TooDeep = codes "it is nested more than a hundred levels deep"

-- the payload of a message of this type is none of its record
unfoldable pub unread_payload_text : MessageType → (fault : List ℕ) → List ℕ
unread_payload_text ty fault = codes "the payload of " ++ type_text ty ++ codes " cannot be read: " ++ fault

-- another message than was asked for
unfoldable pub asked_text : MessageType → ℤ → List ℕ
asked_text expected index = type_text expected ++ codes " was asked for at command " ++ signed_decimal index

unfoldable pub there_text : MessageType → List ℕ
there_text actual = codes ", and " ++ type_text actual ++ codes " is there"

-- a notification that lacks what each has
unfoldable pub missing_field_text : NotificationField → List ℕ
missing_field_text field = codes "a notification without " ++ field_text field

abbrev pub decoding_text : DecodingError → List ℕ
decoding_text (UnknownMessageType unknown) = unknown_type_text unknown.0
decoding_text (DecodeMessage ty fault) = unread_payload_text ty (payload_fault_text fault)
decoding_text (UnexpectedMessageType expected actual index) = asked_text expected index ++ there_text actual
decoding_text (MissingField field) = missing_field_text field
decoding_text OutOfMemory = no_memory_text
