-- The fields of a void.
use Rattle.std.specs.Prelude.{List, [], ℕ, ◌<◌}
use Rattle.protocol_wire.specs.Wire.{Field}
use Rattle.protocol_wire.specs.Parts.{Part}
use Rattle.protocol_records.specs.declared.void.Void.{Void}

abbrev pub void_of : ℕ → List Field → Void
void_of levels fs = record {}

abbrev pub void_parts : Void → List Part
void_parts v = []

pub record VoidFits (levels : ℕ) (v : Void) : Type 0 where
  pub level : 0 < levels
