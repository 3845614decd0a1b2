-- The fields of a value.
use Rattle.std.specs.Prelude.{List, [], ℕ, ◌<◌, ◌∷◌}
use Rattle.protocol_wire.specs.Wire.{Field}
use Rattle.protocol_wire.specs.Selection.{text}
use Rattle.protocol_wire.specs.Parts.{Part, plain_bytes}
use Rattle.protocol_table.specs.declared.table.value.TheConstants.{CONTENT}
use Rattle.protocol_records.specs.declared.value.Value.{Value}

abbrev pub value_of : ℕ → List Field → Value
value_of levels fs = record {
  content = text CONTENT.number fs;
}

abbrev pub value_parts : Value → List Part
value_parts v =
    plain_bytes CONTENT.number v.content ∷ []

pub record ValueFits (levels : ℕ) (v : Value) : Type 0 where
  pub level : 0 < levels
