-- The payload of an acknowledgement is read as its number.
use Rattle.std.proofs.Common.{◌≡◌, arith, ℕ, zero, suc, ◌+◌, ◌/◌, ◌%◌, ◌≤◌, ◌<◌, ◌^◌, ◌==◌, Bool, true, false, if◌then◌else◌, List, [], ◌∷◌, ◌++◌, length, length-append, Some, Ok, refl, sym}
use Rattle.std.specs.Prelude.{pos, nat_lt}
use Rattle.protocol_wire.specs.Parts.{payload_of}
use Rattle.protocol_wire.specs.declared.record.TheConstants.{LEVELS}
use Rattle.protocol_table.specs.declared.table.RecordType.TheVariants as records
use Rattle.protocol_types.specs.declared.message_type.MessageType.TheVariants as types
use Rattle.journal_model.specs.Spelling.{varint, varint_groups, number_field, frame_bytes, acknowledgement_payload}
use Rattle.protocol_controls.specs.ProposeRunCompletionAck.{propose_run_completion_ack_of, propose_run_completion_ack_parts}
use Rattle.protocol_controls.specs.ReadBack.{propose_run_completion_ack_reads}
use Rattle.protocol_stream.specs.Frame.{message_of}
use Rattle.protocol_stream.specs.Item.{message, item_at}
use Rattle.protocol_stream.proofs.Frames.{item_at-frame_bytes}
use Rattle.protocol_messages.specs.Decodings.{DecodesTo}
use Rattle.protocol_laws.proofs.Notifications.{acknowledgements_spelled}

-- ---- its length

groups_within : (k n : ℕ) → length (varint_groups k n) ≤ k
groups_within zero n = omega arith
groups_within (suc k) n = by_size (nat_lt n 128) (groups_within k (n / 128))
  where
    by_size : (b : Bool) → length (varint_groups k (n / 128)) ≤ k → length (if b then n ∷ [] else (n % 128 + 128) ∷ varint_groups k (n / 128)) ≤ suc k
    by_size true fewer = omega arith
    by_size false fewer = omega (arith, fewer)

short : (n : ℕ) → length (acknowledgement_payload n) < 2 ^ 32
short n = by_size (n == 0)
  where
    by_size : (b : Bool) → length (if b then [] else number_field 1 n) < 2 ^ 32
    by_size true = omega arith
    by_size false = omega (arith, length-append (varint 8) (varint n), groups_within 10 8, groups_within 10 n)

-- ---- it is read back

pub acknowledgement_front : (n : ℕ) (rest : List ℕ)
    → item_at (frame_bytes types.ProposeRunCompletionAck (acknowledgement_payload n) ++ rest) ≡ Some (message (message_of types.ProposeRunCompletionAck (acknowledgement_payload n)), rest)
acknowledgement_front n rest = item_at-frame_bytes types.ProposeRunCompletionAck (acknowledgement_payload n) rest refl (short n)

pub acknowledgement_decoded : (n : ℕ) → n < 2 ^ 32
    → DecodesTo records.ProposeRunCompletionAck propose_run_completion_ack_of (pos 0) (message_of types.ProposeRunCompletionAck (acknowledgement_payload n)) (Ok (record { completion_id = n }))
acknowledgement_decoded n small =
    let spelled : payload_of (propose_run_completion_ack_parts (record { completion_id = n })) ≡ acknowledgement_payload n = acknowledgements_spelled n in
    let few = short n in
    let is = propose_run_completion_ack_reads LEVELS (record { completion_id = n }) (record { level = omega arith; completion_id = small }) (rw spelled (omega (arith, few))) in
    (refl, rw (sym spelled) is)
