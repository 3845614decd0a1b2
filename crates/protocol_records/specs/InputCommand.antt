-- The fields of an input command.
use Rattle.std.specs.Prelude.{IfSome, IsUtf8, List, [], map, option_map, ℕ, ◌-◌, ◌<◌, ◌∷◌}
use Rattle.std.specs.List.{AllByRecursion}
use Rattle.protocol_wire.specs.Wire.{Field}
use Rattle.protocol_wire.specs.Selection.{optional_record, records, text}
use Rattle.protocol_wire.specs.Parts.{Part, optional_bytes, payload_of, plain_bytes, repeated_bytes}
use Rattle.protocol_table.specs.declared.table.input_command.TheConstants.{HEADERS, NAME, VALUE}
use Rattle.protocol_records.specs.Header.{header_of, header_parts, HeaderFits}
use Rattle.protocol_records.specs.Value.{value_of, value_parts, ValueFits}
use Rattle.protocol_records.specs.declared.input_command.InputCommandMessage.{InputCommandMessage}

abbrev pub input_command_of : ℕ → List Field → InputCommandMessage
input_command_of levels fs = record {
  headers = records (header_of (levels - 1)) HEADERS.number fs;
  name = text NAME.number fs;
  value = optional_record (value_of (levels - 1)) VALUE.number fs;
}

abbrev pub input_command_parts : InputCommandMessage → List Part
input_command_parts v =
    repeated_bytes HEADERS.number (map (λ r. payload_of (header_parts r)) v.headers) ∷
    plain_bytes NAME.number v.name ∷
    optional_bytes VALUE.number (option_map (λ r. payload_of (value_parts r)) v.value) ∷ []

pub record InputCommandFits (levels : ℕ) (v : InputCommandMessage) : Type 0 where
  pub level : 0 < levels
  pub headers : AllByRecursion (HeaderFits (levels - 1)) v.headers
  pub name : IsUtf8 v.name
  pub value : IfSome v.value (ValueFits (levels - 1))
