-- The canonical spelling of a record: for each of its fields, in ascending order, the values that stand for it.
use Rattle.std.specs.Prelude.{ℕ, ◌+◌, ◌^◌, nat_lt, List, [], ◌∷◌, ◌++◌, map, Option, Some, None, Bool, true, false, ◌==◌, if◌then◌else◌}
use Rattle.std.specs.List.{flat_map}
use Rattle.protocol_wire.specs.Wire.{Wire, varint, bytes, Field}
use Rattle.protocol_wire.specs.Spelling.{varint_spelling, tagged}

abbrev pub Part : Type 0
Part = ℕ × List Wire

-- A plain number: left out where it is zero.
abbrev pub plain_number : ℕ → ℕ → Part
plain_number number n = (number, (if n == 0 then [] else varint n ∷ []))

abbrev pub bool_number : Bool → ℕ
bool_number false = 0
bool_number true = 1

-- The number of an enum, given by its 32 bits: a negative one has its sign in the 32 bits above them too.
abbrev pub enum_number : ℕ → ℕ
enum_number n = if nat_lt n (2 ^ 31) then n else n + 18446744069414584320

abbrev pub nonempty : List ℕ → List Wire
nonempty [] = []
nonempty (b ∷ bs) = bytes (b ∷ bs) ∷ []

-- Plain bytes or a plain text: left out where it is empty.
abbrev pub plain_bytes : ℕ → List ℕ → Part
plain_bytes number bs = (number, nonempty bs)

abbrev pub number_if : Option ℕ → List Wire
number_if None = []
number_if (Some n) = varint n ∷ []

abbrev pub bytes_if : Option (List ℕ) → List Wire
bytes_if None = []
bytes_if (Some bs) = bytes bs ∷ []

-- What is optional is written also where it is zero or empty.
abbrev pub optional_number : ℕ → Option ℕ → Part
optional_number number o = (number, number_if o)

abbrev pub optional_bytes : ℕ → Option (List ℕ) → Part
optional_bytes number o = (number, bytes_if o)

abbrev pub repeated_bytes : ℕ → List (List ℕ) → Part
repeated_bytes number bs = (number, map bytes bs)

-- Repeated numbers are packed into one field, left out where there is none.
abbrev pub packed : ℕ → List ℕ → Part
packed number ns = (number, nonempty (flat_map varint_spelling ns))

abbrev pub part_spelling : Part → List ℕ
part_spelling p = flat_map (tagged p.0) p.1

abbrev pub payload_of : List Part → List ℕ
payload_of [] = []
payload_of (p ∷ ps) = part_spelling p ++ payload_of ps

-- The fields that the parts are.
abbrev pub parts_numbered : ℕ → List Wire → List Field
parts_numbered number [] = []
parts_numbered number (w ∷ ws) = record { number = number; value = w } ∷ parts_numbered number ws

abbrev pub fields_of : List Part → List Field
fields_of [] = []
fields_of (p ∷ ps) = parts_numbered p.0 p.1 ++ fields_of ps
