-- The fields of a suspension.
use Rattle.std.specs.Prelude.{IfSome, List, [], option_map, ℕ, ◌-◌, ◌<◌, ◌∷◌}
use Rattle.protocol_wire.specs.Wire.{Field}
use Rattle.protocol_wire.specs.Selection.{optional_record}
use Rattle.protocol_wire.specs.Parts.{Part, optional_bytes, payload_of}
use Rattle.protocol_table.specs.declared.table.suspension.TheConstants.{AWAITING_ON}
use Rattle.protocol_records.specs.Future.{future_of, future_parts, FutureFits}
use Rattle.protocol_records.specs.declared.suspension.SuspensionMessage.{SuspensionMessage}

abbrev pub suspension_of : ℕ → List Field → SuspensionMessage
suspension_of levels fs = record {
  awaiting_on = optional_record (future_of (levels - 1)) AWAITING_ON.number fs;
}

abbrev pub suspension_parts : SuspensionMessage → List Part
suspension_parts v =
    optional_bytes AWAITING_ON.number (option_map (λ r. payload_of (future_parts r)) v.awaiting_on) ∷ []

pub record SuspensionFits (levels : ℕ) (v : SuspensionMessage) : Type 0 where
  pub level : 0 < levels
  pub awaiting_on : IfSome v.awaiting_on (FutureFits (levels - 1))
