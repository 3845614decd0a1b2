-- The fields of a state keys.
use Rattle.std.specs.Prelude.{List, [], ℕ, ◌<◌, ◌∷◌}
use Rattle.protocol_wire.specs.Wire.{Field}
use Rattle.protocol_wire.specs.Selection.{texts}
use Rattle.protocol_wire.specs.Parts.{Part, repeated_bytes}
use Rattle.protocol_table.specs.declared.table.state_keys.TheConstants.{KEYS}
use Rattle.protocol_records.specs.declared.state_keys.StateKeys.{StateKeys}

abbrev pub state_keys_of : ℕ → List Field → StateKeys
state_keys_of levels fs = record {
  keys = texts KEYS.number fs;
}

abbrev pub state_keys_parts : StateKeys → List Part
state_keys_parts v =
    repeated_bytes KEYS.number v.keys ∷ []

pub record StateKeysFits (levels : ℕ) (v : StateKeys) : Type 0 where
  pub level : 0 < levels
