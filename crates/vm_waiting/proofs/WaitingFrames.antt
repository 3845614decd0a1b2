-- What is written of what is waited for is the frame that is defined.
use Rattle.std.proofs.Common.{◌≡◌, ◌≤◌, ◌<◌, ◌^◌, ◌↔◌, inl, inr, ℕ, Bool, true, false, List, ◌++◌, length, Some, Result, Ok, Err, OnOk, OnErr, refl, sym, ap, ◌∙◌, subst}
use Rattle.std.specs.Prelude.{if◌then◌else◌}
use Rattle.std.proofs.lemmas.Bool.{cases_Bool, cases_lt}
use Rattle.journal_model.specs.declared.notification.NotificationId.{NotificationId}
use Rattle.journal_model.specs.AwaitTree.{AwaitTree}
use Rattle.journal_model.specs.Spelling.{awaiting_on_payload, frame_bytes}
use Rattle.protocol_table.specs.declared.table.RecordType.TheVariants as records
use Rattle.protocol_types.specs.declared.message_type.MessageType.{MessageType}
use Rattle.protocol_types.specs.declared.message_type.MessageType.TheVariants as messages
use Rattle.protocol_types.specs.declared.version.Version.{Version}
use Rattle.protocol_types.specs.MessageType.{type_number}
use Rattle.protocol_records.specs.declared.future.Future.{Future}
use Rattle.protocol_records.specs.AwaitingOn.{awaiting_on_parts}
use Rattle.protocol_stream.specs.declared.decoder.RawMessage.{RawMessage}
use Rattle.protocol_stream.specs.declared.encoder.EncodingError.{EncodingError}
use Rattle.protocol_stream.specs.declared.encoder.EncodingError.TheVariants.{PayloadTooLong, OutOfMemory}
use Rattle.protocol_stream.specs.Frame.{spelled, message_of}
use Rattle.protocol_stream.specs.Records.{future_record}
use Rattle.protocol_stream.proofs.Spellings.{spelled-frame_bytes}
use Rattle.protocol_stream.proofs.RecordSpellings.{awaiting_on_spelled}
use Rattle.protocol_messages.specs.Encodings.{suspends_by_lists, payload_message, suspension_message, plain_message}
use Rattle.vm_context.specs.Output.{Written, with_frame}
use Rattle.vm_calls.specs.declared.active.Active.{Active}
use Rattle.vm_waiting.specs.SuspensionFrames.{suspension_payload_in, WritesFrame, IsSuspensionWritten}
use Rattle.vm_waiting.proofs.Listing.{suspension_spelled}

-- ---- messages

pub suspension_is : (version : Version) (told : Future) (tree : AwaitTree NotificationId) → told ≡ future_record tree
    → suspension_message version (record { awaiting_on = Some told }) ≡ message_of messages.Suspension (suspension_payload_in version tree)
suspension_is version told tree is =
    ap (λ (f : Future). suspension_message version (record { awaiting_on = Some f })) is
    ∙ ap (λ (payload : List ℕ). payload_message messages.Suspension version payload) (suspension_spelled (suspends_by_lists version) tree)

pub awaiting_on_is : (version : Version) (told : Future) (tree : AwaitTree NotificationId) → told ≡ future_record tree
    → plain_message records.AwaitingOn version (awaiting_on_parts (record { awaiting_on = Some told; executing_side_effects = false })) ≡ message_of messages.AwaitingOn (awaiting_on_payload tree false)
awaiting_on_is version told tree is =
    ap (λ (f : Future). plain_message records.AwaitingOn version (awaiting_on_parts (record { awaiting_on = Some f; executing_side_effects = false }))) is
    ∙ ap (λ (payload : List ℕ). payload_message messages.AwaitingOn version payload) (awaiting_on_spelled tree false)

-- ---- frames

behind_end : (one other : List ℕ) (old : Written) → old.is_closed ≡ true → with_frame one old ≡ with_frame other old
behind_end one other old closed =
    ap (λ (b : Bool). if b then old else record old { bytes = old.bytes ++ one }) closed
    ∙ sym (ap (λ (b : Bool). if b then old else record old { bytes = old.bytes ++ other }) closed)

module _ (ty : MessageType) (payload : List ℕ) (message : RawMessage) (result : Result (Unit {0}) EncodingError) (old new : Written) (is : message ≡ message_of ty payload)
    (long : (result ≡ Err PayloadTooLong) ↔ ((old.is_closed ≡ false) × (2 ^ 32 ≤ length message.payload))) where
  fits : (result ≡ Err PayloadTooLong → ⊥) → old.is_closed ≡ false → length payload < 2 ^ 32
  fits not opened = elim (cases_lt (length payload) (2 ^ 32)) [
    | inl lt ↦ lt
    | inr ge ↦ absurd (not (long.1 (opened, subst (λ (one : RawMessage). 2 ^ 32 ≤ length one.payload) (sym is) ge)))
  ]

  too_long : result ≡ Err PayloadTooLong → 2 ^ 32 ≤ length payload
  too_long refused = subst (λ (one : RawMessage). 2 ^ 32 ≤ length one.payload) is (long.0 refused).1

  frame_is : type_number ty < 2 ^ 16 → (result ≡ Err PayloadTooLong → ⊥) → new ≡ with_frame (spelled message) old → new ≡ with_frame (frame_bytes ty payload) old
  frame_is numbered not sent = elim (cases_Bool old.is_closed) [
    | inl closed ↦ sent ∙ behind_end (spelled message) (frame_bytes ty payload) old closed
    | inr opened ↦ sent ∙ ap (λ (frame : List ℕ). with_frame frame old) (ap spelled is ∙ spelled-frame_bytes ty payload numbered (fits not opened))
  ]

pub writes : (ty : MessageType) (payload : List ℕ) (message : RawMessage) (result : Result (Unit {0}) EncodingError) (old new : Written) → message ≡ message_of ty payload → type_number ty < 2 ^ 16
    → OnOk result (new ≡ with_frame (spelled message) old) → OnErr result (new ≡ old)
    → ((result ≡ Err PayloadTooLong) ↔ ((old.is_closed ≡ false) × (2 ^ 32 ≤ length message.payload)))
    → WritesFrame ty payload old result new
writes ty payload message (Ok done) old new is numbered sent kept long =
    (fits ty payload message (Ok done) old new is long (λ wrong. cc wrong), frame_is ty payload message (Ok done) old new is long numbered (λ wrong. cc wrong) sent)
writes ty payload message (Err PayloadTooLong) old new is numbered sent kept long = (too_long ty payload message (Err PayloadTooLong) old new is long refl, kept)
writes ty payload message (Err OutOfMemory) old new is numbered sent kept long = kept

-- ---- an attempt

module _ (ids : AwaitTree NotificationId) (old : Active) where
  abbrev suspension : List ℕ
  suspension = suspension_payload_in old.output.version ids

  pub suspended : (output : Written) → WritesFrame messages.Suspension suspension old.output (Ok tt) output → IsSuspensionWritten ids old (Ok tt) (record old { output = record output { is_closed = true } })
  suspended output writes = record { fits = writes.0; suspended = ap (λ (o : Written). record old { output = record o { is_closed = true } }) writes.1 }
