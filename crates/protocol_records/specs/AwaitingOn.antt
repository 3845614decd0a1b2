-- The fields of an awaiting-on message.
use Rattle.std.specs.Prelude.{IfSome, List, [], option_map, ℕ, ◌-◌, ◌<◌, ◌∷◌}
use Rattle.protocol_wire.specs.Wire.{Field}
use Rattle.protocol_wire.specs.Selection.{bool, optional_record}
use Rattle.protocol_wire.specs.Parts.{Part, bool_number, optional_bytes, payload_of, plain_number}
use Rattle.protocol_table.specs.declared.table.awaiting_on.TheConstants.{AWAITING_ON, EXECUTING_SIDE_EFFECTS}
use Rattle.protocol_records.specs.Future.{future_of, future_parts, FutureFits}
use Rattle.protocol_records.specs.declared.awaiting_on.AwaitingOnMessage.{AwaitingOnMessage}

abbrev pub awaiting_on_of : ℕ → List Field → AwaitingOnMessage
awaiting_on_of levels fs = record {
  awaiting_on = optional_record (future_of (levels - 1)) AWAITING_ON.number fs;
  executing_side_effects = bool EXECUTING_SIDE_EFFECTS.number fs;
}

abbrev pub awaiting_on_parts : AwaitingOnMessage → List Part
awaiting_on_parts v =
    optional_bytes AWAITING_ON.number (option_map (λ r. payload_of (future_parts r)) v.awaiting_on) ∷
    plain_number EXECUTING_SIDE_EFFECTS.number (bool_number v.executing_side_effects) ∷ []

pub record AwaitingOnFits (levels : ℕ) (v : AwaitingOnMessage) : Type 0 where
  pub level : 0 < levels
  pub awaiting_on : IfSome v.awaiting_on (FutureFits (levels - 1))
