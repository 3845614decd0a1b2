-- The fields of a payload, and whether the payload is fields and nothing else.
use Rattle.std.specs.Prelude.{ℕ, List, Bool}
use Rattle.protocol_wire.specs.Wire.{Field, field_at, varint_at}
use Rattle.protocol_wire.specs.Items.{items, left, is_end}

abbrev pub fields : List ℕ → List Field
fields bs = items field_at bs

abbrev pub are_fields : List ℕ → Bool
are_fields bs = is_end (left field_at bs)

-- The varints that bytes are.
abbrev pub varints : List ℕ → List ℕ
varints bs = items varint_at bs

abbrev pub are_varints : List ℕ → Bool
are_varints bs = is_end (left varint_at bs)
