-- The payload of an arrival is two fields: one that names it, and one of what it carries.
use Rattle.std.proofs.Common.{◌≡◌, ◌<◌, ◌^◌, ℕ, List, [], ◌∷◌, ◌++◌, length, Option, Some, None, refl, sym, ap, subst, ◌∙◌, arith}
use Rattle.std.specs.List.{AllByRecursion}
use Rattle.journal_model.specs.Notification.{Bytes, Arrival}
use Rattle.journal_model.specs.declared.notification.NotificationId.{NotificationId}
use Rattle.journal_model.specs.declared.notification.NotificationId.TheVariants.{CompletionId, SignalId, SignalName}
use Rattle.journal_model.specs.declared.notification.NotificationResult.{NotificationResult}
use Rattle.journal_model.specs.declared.notification.NotificationResult.TheVariants as brought
use Rattle.journal_model.specs.Spelling.{notification_payload}
use Rattle.protocol_wire.specs.Wire.{Wire, varint, bytes, fixed, Field}
use Rattle.protocol_wire.specs.Fields.{fields}
use Rattle.protocol_wire.specs.Spelling.{FieldFits}
use Rattle.protocol_wire.specs.Parts.{Part, parts_numbered, fields_of, payload_of}
use Rattle.protocol_wire.proofs.Holds.{LengthFits, PartLengthsFit, lengths_fit}
use Rattle.protocol_wire.proofs.Laws.{fields-payload_alone}
use Rattle.protocol_records.specs.Failure.{failure_parts}
use Rattle.protocol_records.specs.StateKeys.{state_keys_parts}
use Rattle.protocol_records.specs.Value.{value_parts}
use Rattle.protocol_records.specs.Void.{void_parts}
use Rattle.protocol_stream.specs.Records.{value_record, arrived_failure_record}
use Rattle.protocol_controls.specs.Notification.{id_parts, notification_parts, result_parts}
use Rattle.protocol_laws.specs.Records.{id_record, keys_record, notification_record, result_record, void_record}
use Rattle.protocol_laws.proofs.Notifications.{notifications_spelled}
use Rattle.store_frames.specs.First.{await_state_of}
use Rattle.store_frames.specs.KeptArrivals.{completion_in, state_by}

-- ---- the two fields

abbrev pub named_field : NotificationId → Field
named_field (CompletionId n) = record { number = 1; value = varint n }
named_field (SignalId n) = record { number = 2; value = varint n }
named_field (SignalName name) = record { number = 3; value = bytes name }

abbrev pub brought_field : NotificationResult → Field
brought_field brought.Void = record { number = 4; value = bytes (payload_of (void_parts void_record)) }
brought_field (brought.Value content) = record { number = 5; value = bytes (payload_of (value_parts (value_record content))) }
brought_field (brought.Failure failure) = record { number = 6; value = bytes (payload_of (failure_parts (arrived_failure_record failure))) }
brought_field (brought.InvocationId id) = record { number = 7; value = bytes id }
brought_field (brought.StateKeys keys) = record { number = 8; value = bytes (payload_of (state_keys_parts (keys_record keys))) }

result_fields : (result : NotificationResult) → fields_of (result_parts (Some (result_record result))) ≡ brought_field result ∷ []
result_fields brought.Void = refl
result_fields (brought.Value content) = refl
result_fields (brought.Failure failure) = refl
result_fields (brought.InvocationId id) = refl
result_fields (brought.StateKeys keys) = refl

parts_are : (id : NotificationId) (result : NotificationResult) → fields_of (id_parts (Some (id_record id)) ++ result_parts (Some (result_record result))) ≡ named_field id ∷ brought_field result ∷ []
parts_are (CompletionId n) result = ap (λ (fs : List Field). named_field (CompletionId n) ∷ fs) (result_fields result)
parts_are (SignalId n) result = ap (λ (fs : List Field). named_field (SignalId n) ∷ fs) (result_fields result)
parts_are (SignalName name) result = ap (λ (fs : List Field). named_field (SignalName name) ∷ fs) (result_fields result)

-- ---- they are spelled so that they are read

abbrev IsShort : Field → Type 0
IsShort f = LengthFits f.value

numbered_short : (number : ℕ) (ws : List Wire) (fs : List Field) → AllByRecursion LengthFits ws → AllByRecursion IsShort fs → AllByRecursion IsShort (parts_numbered number ws ++ fs)
numbered_short number [] fs h others = others
numbered_short number (w ∷ ws) fs h others = (h.0, numbered_short number ws fs h.1 others)

parts_short : (ps : List Part) → AllByRecursion PartLengthsFit ps → AllByRecursion IsShort (fields_of ps)
parts_short [] h = tt
parts_short (p ∷ ps) h = numbered_short p.0 p.1 (fields_of ps) h.0 (parts_short ps h.1)

-- a number that names an arrival has 32 bits
abbrev pub IdFits : NotificationId → Type 0
IdFits (CompletionId n) = n < 2 ^ 32
IdFits (SignalId n) = n < 2 ^ 32
IdFits (SignalName name) = Unit {0}

named_fits : (id : NotificationId) → IdFits id → IsShort (named_field id) → FieldFits (named_field id)
named_fits (CompletionId n) h short = record { named = omega arith; number = omega arith; value = omega (arith, h) }
named_fits (SignalId n) h short = record { named = omega arith; number = omega arith; value = omega (arith, h) }
named_fits (SignalName name) h short = record { named = omega arith; number = omega arith; value = short }

brought_fits : (result : NotificationResult) → IsShort (brought_field result) → FieldFits (brought_field result)
brought_fits brought.Void short = record { named = omega arith; number = omega arith; value = short }
brought_fits (brought.Value content) short = record { named = omega arith; number = omega arith; value = short }
brought_fits (brought.Failure failure) short = record { named = omega arith; number = omega arith; value = short }
brought_fits (brought.InvocationId id) short = record { named = omega arith; number = omega arith; value = short }
brought_fits (brought.StateKeys keys) short = record { named = omega arith; number = omega arith; value = short }

pub payload_fields : (arrival : Arrival) (payload : Bytes) → payload ≡ notification_payload arrival → IdFits arrival.id → length payload < 2 ^ 64
    → fields payload ≡ named_field arrival.id ∷ brought_field arrival.result ∷ []
payload_fields arrival payload e h small =
    let ps = notification_parts (notification_record arrival) in
    let are = parts_are arrival.id arrival.result in
    let spelled : payload_of ps ≡ payload = notifications_spelled arrival ∙ sym e in
    let short : AllByRecursion IsShort (named_field arrival.id ∷ brought_field arrival.result ∷ []) =
    subst (AllByRecursion IsShort) are (parts_short ps (lengths_fit ps (subst (λ (bs : Bytes). length bs < 2 ^ 64) (sym spelled) small))) in
    let fit = subst (AllByRecursion FieldFits) (sym are) (named_fits arrival.id h short.0, (brought_fits arrival.result short.1.0, tt)) in
    ap fields (sym spelled) ∙ fields-payload_alone ps fit ∙ are

-- ---- what is carried comes to this

pub state_brought : (result : NotificationResult) → state_by (brought_field result).number ≡ await_state_of result
state_brought brought.Void = refl
state_brought (brought.Value content) = refl
state_brought (brought.Failure failure) = refl
state_brought (brought.InvocationId id) = refl
state_brought (brought.StateKeys keys) = refl
