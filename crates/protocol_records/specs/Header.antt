-- The fields of a header.
use Rattle.std.specs.Prelude.{IsUtf8, List, [], ℕ, ◌<◌, ◌∷◌}
use Rattle.protocol_wire.specs.Wire.{Field}
use Rattle.protocol_wire.specs.Selection.{text}
use Rattle.protocol_wire.specs.Parts.{Part, plain_bytes}
use Rattle.protocol_table.specs.declared.table.header.TheConstants.{KEY, VALUE}
use Rattle.protocol_records.specs.declared.header.Header.{Header}

abbrev pub header_of : ℕ → List Field → Header
header_of levels fs = record {
  key = text KEY.number fs;
  value = text VALUE.number fs;
}

abbrev pub header_parts : Header → List Part
header_parts v =
    plain_bytes KEY.number v.key ∷
    plain_bytes VALUE.number v.value ∷ []

pub record HeaderFits (levels : ℕ) (v : Header) : Type 0 where
  pub level : 0 < levels
  pub key : IsUtf8 v.key
  pub value : IsUtf8 v.value
