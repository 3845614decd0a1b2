-- The canonical spelling of fields.
use Rattle.std.specs.Prelude.{ℕ, zero, suc, ◌+◌, ◌*◌, ◌/◌, ◌%◌, ◌^◌, ◌<◌, List, [], ◌∷◌, ◌++◌, length, nat_lt, if◌then◌else◌}
use Rattle.protocol_wire.specs.Wire.{Wire, varint, bytes, fixed, Field}

unfoldable pub varint_spelling_within : ℕ → ℕ → List ℕ
varint_spelling_within zero n = []
varint_spelling_within (suc k) n = if nat_lt n 128 then n ∷ [] else (n % 128 + 128) ∷ varint_spelling_within k (n / 128)

-- The shortest varint: seven bits a byte, the lowest first.
unfoldable pub varint_spelling : ℕ → List ℕ
varint_spelling n = varint_spelling_within 10 n

-- The tag, and the value behind it.
unfoldable pub tagged : ℕ → Wire → List ℕ
tagged number (varint n) = varint_spelling (8 * number) ++ varint_spelling n
tagged number (bytes b) = varint_spelling (8 * number + 2) ++ (varint_spelling (length b) ++ b)
tagged number fixed = []

abbrev pub field_spelling : Field → List ℕ
field_spelling f = tagged f.number f.value

unfoldable pub spelling : List Field → List ℕ
spelling [] = []
spelling (f ∷ fs) = field_spelling f ++ spelling fs

-- What has a canonical spelling.
abbrev pub ValueFits : Wire → Type 0
ValueFits (varint n) = n < 2 ^ 64
ValueFits (bytes b) = length b < 2 ^ 64
ValueFits fixed = ⊥

pub record FieldFits (f : Field) : Type 0 where
  pub named : 0 < f.number
  pub number : f.number < 2 ^ 29
  pub value : ValueFits f.value
