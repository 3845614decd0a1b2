-- The fields of a state entry.
use Rattle.std.specs.Prelude.{List, [], ℕ, ◌<◌, ◌∷◌}
use Rattle.protocol_wire.specs.Wire.{Field}
use Rattle.protocol_wire.specs.Selection.{text}
use Rattle.protocol_wire.specs.Parts.{Part, plain_bytes}
use Rattle.protocol_table.specs.declared.table.state_entry.TheConstants.{KEY, VALUE}
use Rattle.protocol_records.specs.declared.start.StateEntry.{StateEntry}

abbrev pub state_entry_of : ℕ → List Field → StateEntry
state_entry_of levels fs = record {
  key = text KEY.number fs;
  value = text VALUE.number fs;
}

abbrev pub state_entry_parts : StateEntry → List Part
state_entry_parts v =
    plain_bytes KEY.number v.key ∷
    plain_bytes VALUE.number v.value ∷ []

pub record StateEntryFits (levels : ℕ) (v : StateEntry) : Type 0 where
  pub level : 0 < levels
