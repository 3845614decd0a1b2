-- Rows of the specification, computed by the definitions.
use Rattle.std.proofs.Common.{◌≡◌, List, [], ◌∷◌, Some, false, refl, ap, arith}
use Rattle.protocol_wire.specs.Wire.{varint_within, varint_at, wire_value, field_at}
use Rattle.protocol_wire.specs.Items.{items_within, items, left_within, left}
use Rattle.protocol_wire.specs.Fields.{fields}
use Rattle.protocol_wire.specs.Spelling.{varint_spelling_within, varint_spelling, tagged}
use Rattle.protocol_wire.specs.Selection.{last_number, last_bytes}
use Rattle.protocol_wire.specs.Check.{payload_fault}
use Rattle.protocol_wire.specs.Parts.{Part, optional_bytes, payload_of}
use Rattle.protocol_wire.specs.declared.record.TheConstants.{LEVELS}
use Rattle.protocol_table.specs.declared.table.RecordType.TheVariants as types
use Rattle.protocol_table.specs.declared.table.awaiting_on.TheConstants.{AWAITING_ON}
use Rattle.protocol_wire.specs.declared.check.Fault.TheVariants.{BadPayload}
use Rattle.protocol_records.specs.declared.future.Future.{Future, roll-Future}
use Rattle.protocol_records.specs.declared.future.Future.TheOpen.{Future-F}
use Rattle.protocol_records.specs.declared.future.CombinatorType.TheVariants.{FirstCompleted}
use Rattle.protocol_records.specs.SleepCommand.{sleep_command_of, sleep_command_parts}
use Rattle.protocol_records.specs.Future.{FutureFits}
use Rattle.protocol_records.specs.AwaitingOn.{awaiting_on_parts}
use Rattle.protocol_records.proofs.Futures.{future_parts_of, future_fits}

-- a sleep until 10 with completion id 1
pub sleep_spelled : payload_of (sleep_command_parts (record { wake_up_time = 10; result_completion_id = 1; name = [] })) ≡ 8 ∷ 10 ∷ 88 ∷ 1 ∷ []
unfolding varint_spelling_within varint_spelling tagged
sleep_spelled = refl

-- the last scalar stands
pub last_scalar : sleep_command_of LEVELS (fields (8 ∷ 1 ∷ 8 ∷ 2 ∷ [])) ≡ record { wake_up_time = 2; result_completion_id = 0; name = [] }
unfolding varint_within varint_at wire_value field_at items_within items last_number last_bytes
last_scalar = refl

pub truncated_varint : payload_fault LEVELS types.SleepCommand (8 ∷ 10 ∷ 88 ∷ []) ≡ Some BadPayload
unfolding varint_within varint_at wire_value field_at items_within items left_within left payload_fault
truncated_varint = refl

pub wire_type_three : payload_fault LEVELS types.SleepCommand (11 ∷ []) ≡ Some BadPayload
unfolding varint_within varint_at wire_value field_at items_within items left_within left payload_fault
wire_type_three = refl

-- completion 1 or the cancellation
abbrev leaf : Future-F Future
leaf = record { waiting_completions = 1 ∷ []; waiting_signals = 1 ∷ []; waiting_named_signals = []; nested_futures = []; combinator_type = FirstCompleted; required = 0 }

pub awaiting_on_spelled : payload_of (awaiting_on_parts (record { awaiting_on = Some (roll-Future leaf); executing_side_effects = false })) ≡ 10 ∷ 8 ∷ 10 ∷ 1 ∷ 1 ∷ 18 ∷ 1 ∷ 1 ∷ 40 ∷ 1 ∷ []
unfolding varint_spelling_within varint_spelling tagged
awaiting_on_spelled = ap (λ (ps : List Part). payload_of (optional_bytes AWAITING_ON.number (Some (payload_of ps)) ∷ [])) (future_parts_of leaf)

pub leaf_fits : FutureFits 100 (roll-Future leaf)
leaf_fits = future_fits 99 leaf ((omega arith, tt), (omega arith, tt), tt, tt, tt, omega arith)
