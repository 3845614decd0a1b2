-- The fields of an end.
use Rattle.std.specs.Prelude.{List, [], ℕ, ◌<◌}
use Rattle.protocol_wire.specs.Wire.{Field}
use Rattle.protocol_wire.specs.Parts.{Part}
use Rattle.protocol_records.specs.declared.end.EndMessage.{EndMessage}

abbrev pub end_message_of : ℕ → List Field → EndMessage
end_message_of levels fs = record {}

abbrev pub end_parts : EndMessage → List Part
end_parts v = []

pub record EndFits (levels : ℕ) (v : EndMessage) : Type 0 where
  pub level : 0 < levels
