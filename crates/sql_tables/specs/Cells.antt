-- Values as the cells of a row.
use Rattle.std.specs.Prelude.{ℕ, pos, Bool, if◌then◌else◌, ◌<◌, ◌^◌}
use Rattle.std.specs.Int.{w64, cast_signed}
use Rattle.sqlite.specs.declared.types.Value.{Value}
use Rattle.sqlite.specs.declared.types.Value.TheVariants.{Int}

-- 64 bits are an integer of SQL, with its sign
abbrev pub long_cell : ℕ → Value
long_cell n = Int (cast_signed w64 n)

abbrev pub short_cell : ℕ → Value
short_cell n = Int (pos n)

abbrev pub flag_cell : Bool → Value
flag_cell b = Int (if b then pos 1 else pos 0)

abbrev pub IsShort : ℕ → Type 0
IsShort n = n < 2 ^ 32

abbrev pub IsLong : ℕ → Type 0
IsLong n = n < 2 ^ 64
