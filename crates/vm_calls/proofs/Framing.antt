-- What is written of a command is the frame of its request.
use Rattle.std.proofs.Common.{◌≡◌, ◌≤◌, ◌<◌, ◌^◌, ◌↔◌, ℕ, Bool, true, false, ltb, inl, inr, List, ◌++◌, length, Option, Some, None, Result, Ok, Err, OnOk, refl, sym, ap, ◌∙◌, subst}
use Rattle.std.proofs.lemmas.Bool.{ltb-true, cases_Bool, cases_lt}
use Rattle.protocol_table.specs.declared.table.RecordType.{RecordType}
use Rattle.protocol_wire.specs.Parts.{Part, payload_of}
use Rattle.journal_model.specs.Request.{Request}
use Rattle.journal_model.specs.Spelling.{request_type, request_payload, request_frame}
use Rattle.protocol_types.specs.declared.message_type.MessageType.{MessageType}
use Rattle.protocol_types.specs.declared.version.Version.{Version}
use Rattle.protocol_types.specs.MessageType.{type_number, allows_ack}
use Rattle.protocol_types.specs.Feature.{has_feature}
use Rattle.protocol_types.specs.Version.{version_number}
use Rattle.protocol_types.specs.declared.feature.Feature.TheVariants.{Acknowledgement}
use Rattle.std.specs.Prelude.{if◌then◌else◌}
use Rattle.protocol_stream.specs.declared.decoder.RawMessage.{RawMessage}
use Rattle.protocol_stream.specs.declared.encoder.EncodingError.{EncodingError}
use Rattle.protocol_stream.specs.declared.encoder.EncodingError.TheVariants.{PayloadTooLong}
use Rattle.protocol_stream.specs.Header.{header_of}
use Rattle.protocol_stream.specs.Frame.{spelled, message_of}
use Rattle.protocol_stream.proofs.Spellings.{spelled-frame_bytes}
use Rattle.protocol_messages.specs.RecordMessage.{type_of_record}
use Rattle.protocol_messages.specs.Encodings.{payload_message, record_message, type_or_end, plain_message}
use Rattle.vm_context.specs.Output.{Written, with_command}

-- no command requests an acknowledgement
never_acked : (request : Request) → allows_ack (request_type request) ≡ false
never_acked (Request.Output value name) = refl
never_acked _ = refl

numbered : (request : Request) → ltb (type_number (request_type request)) (2 ^ 16) ≡ true
numbered (Request.Output value name) = refl
numbered _ = refl

asked_by : (ty : MessageType) (asked : Bool) (payload : List ℕ) → allows_ack ty ≡ false
    → ◌≡◌ {A = RawMessage} (record { header = header_of ty asked (length payload); payload = payload }) (message_of ty payload)
asked_by ty asked payload none = ap (λ (b : Bool). record { header = record { ty = ty; length = length payload; requested_ack = if b then Some asked else None }; payload = payload }) none
    ∙ ap (λ (b : Bool). record { header = record { ty = ty; length = length payload; requested_ack = if b then Some false else None }; payload = payload }) (sym none)

-- the message of a command is that of its request
pub command_message : (t : RecordType) (version : Version) (parts : List Part) (request : Request) → type_of_record t ≡ Some (request_type request) → payload_of parts ≡ request_payload request
    → plain_message t version parts ≡ message_of (request_type request) (request_payload request)
command_message t version parts request typed spells =
    ap (λ (o : Option MessageType). record_message (type_or_end o) version parts) typed
    ∙ ap (λ (payload : List ℕ). payload_message (request_type request) version payload) spells
    ∙ asked_by (request_type request) (has_feature (version_number version) Acknowledgement) (request_payload request) (never_acked request)

behind_end : (one other : List ℕ) (old : Written) → old.is_closed ≡ true → with_command one old ≡ with_command other old
behind_end one other old closed =
    ap (λ (b : Bool). if b then old else record old { bytes = old.bytes ++ one; has_commands = true }) closed
    ∙ sym (ap (λ (b : Bool). if b then old else record old { bytes = old.bytes ++ other; has_commands = true }) closed)

frame_is : (message : RawMessage) (request : Request) → message ≡ message_of (request_type request) (request_payload request) → length (request_payload request) < 2 ^ 32
    → spelled message ≡ request_frame request
frame_is message request is fits = ap spelled is ∙ spelled-frame_bytes (request_type request) (request_payload request) (ltb-true _ _ (numbered request)) fits

-- where it fits, its bytes are the request's frame; behind the end nothing is written of any
pub writes_request : (result : Result (Unit {0}) EncodingError) (old new : Written) (message : RawMessage) (request : Request)
    → message ≡ message_of (request_type request) (request_payload request)
    → OnOk result (new ≡ with_command (spelled message) old)
    → ((result ≡ Err PayloadTooLong) ↔ ((old.is_closed ≡ false) × (2 ^ 32 ≤ length message.payload)))
    → OnOk result (new ≡ with_command (request_frame request) old)
writes_request (Ok u) old new message request is sent long =
    elim (cases_Bool old.is_closed) [
      | inl closed ↦ sent ∙ behind_end (spelled message) (request_frame request) old closed
      | inr before ↦
          let fits : length message.payload < 2 ^ 32 = elim (cases_lt (length message.payload) (2 ^ 32)) [
            | inl lt ↦ lt
            | inr ge ↦ let wrong = long.1 (before, ge) in cc wrong
          ] in
          sent ∙ ap (λ (frame : List ℕ). with_command frame old) (frame_is message request is (subst (λ (one : RawMessage). length one.payload < 2 ^ 32) is fits))
    ]
writes_request (Err error) old new message request is sent long = tt
