-- A message that is read is not one that cannot be read.
use Rattle.std.proofs.Common.{◌≡◌, ◌≢◌, ◌∙◌, ℕ, List, Option, Some, None, Ok, Err, refl, sym}
use Rattle.std.specs.Prelude.{ℤ}
use Rattle.protocol_table.specs.declared.table.RecordType.{RecordType}
use Rattle.protocol_wire.specs.Wire.{Field}
use Rattle.protocol_wire.specs.declared.check.Fault.{Fault}
use Rattle.protocol_types.specs.declared.message_type.MessageType.{MessageType}
use Rattle.protocol_stream.specs.declared.decoder.RawMessage.{RawMessage}
use Rattle.protocol_stream.specs.declared.decoder.DecodingError.{DecodingError}
use Rattle.protocol_stream.specs.declared.decoder.DecodingError.TheVariants as unread
use Rattle.protocol_stream.specs.Header.{message_type}
use Rattle.protocol_messages.specs.Decodings.{DecodesTo}

same_type : (one other : MessageType) → ◌≡◌ {A = Option MessageType} (Some one) (Some other) → one ≡ other
same_type one other e = cc

nothing_wrong : (fault : Fault) → ◌≡◌ {A = Option Fault} None (Some fault) → ⊥
nothing_wrong fault e = cc

module _ {R : Type 0} (t : RecordType) (of : ℕ → List Field → R) (index : ℤ) (raw : RawMessage) (one : R) (decoded : DecodesTo t of index raw (Ok one)) where
  pub same_read : (other : R) → DecodesTo t of index raw (Ok other) → other ≡ one
  same_read other h = h.1.value ∙ sym decoded.1.value

  pub not_unread : (error : DecodingError) → DecodesTo {R = R} t of index raw (Err error) → error ≢ unread.OutOfMemory → ⊥
  not_unread (unread.UnexpectedMessageType expected actual told) h differs =
      h.other (h.is_there ∙ sym (same_type expected (message_type raw.header) (sym h.is_expected ∙ decoded.0)))
  not_unread (unread.DecodeMessage ty fault) h differs = nothing_wrong fault (sym decoded.1.sound ∙ h.1.is_wrong)
  not_unread unread.OutOfMemory h differs = differs refl
  not_unread _ h differs = h
