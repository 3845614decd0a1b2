-- What is read as a record's own message.
use Rattle.std.proofs.Common.{◌≡◌, ℕ, ℤ, List, Some, Result, Ok, Err, ap, ◌∙◌, sym}
use Rattle.protocol_table.specs.declared.table.RecordType.{RecordType}
use Rattle.protocol_wire.specs.Wire.{Field}
use Rattle.protocol_types.specs.declared.message_type.MessageType.{MessageType}
use Rattle.protocol_stream.specs.declared.decoder.RawMessage.{RawMessage}
use Rattle.protocol_stream.specs.declared.decoder.DecodingError.{DecodingError}
use Rattle.protocol_stream.specs.declared.decoder.DecodingError.TheVariants.{DecodeMessage, OutOfMemory}
use Rattle.protocol_stream.specs.Header.{message_type}
use Rattle.protocol_messages.specs.RecordMessage.{type_of_record}
use Rattle.protocol_messages.specs.Decodings.{ReadsPayload, HasItsType, DecodesTo}

decodes : {R : Type 0} (t : RecordType) (of : ℕ → List Field → R) (index : ℤ) (m : RawMessage) (answer : Result R DecodingError) → HasItsType t m → ReadsPayload t of m answer → DecodesTo t of index m answer
decodes t of index m (Ok one) h read = (h, read)
decodes t of index m (Err (DecodeMessage ty fault)) h read = (h, read)
decodes t of index m (Err OutOfMemory) h read = tt
decodes t of index m (Err _) h read = absurd read

pub decodes_own : {R : Type 0} (t : RecordType) (of : ℕ → List Field → R) (index : ℤ) (m : RawMessage) (ty : MessageType) (answer : Result R DecodingError)
    → type_of_record t ≡ Some ty → message_type m.header ≡ ty → ReadsPayload t of m answer → DecodesTo t of index m answer
decodes_own t of index m ty answer e same read = decodes t of index m answer (e ∙ ap (λ (x : MessageType). Some x) (sym same)) read
