-- How long a canonical payload is.
use Rattle.std.specs.Prelude.{ℕ, ◌+◌, ◌-◌, ◌^◌, min, nat_lt, List, length, Option, Some, None, if◌then◌else◌}

-- The count of the bytes so far and of these behind them, as far as 64 bits go.
abbrev pub counted_bytes : ℕ → List ℕ → ℕ
counted_bytes before bs = min (before + length bs) (2 ^ 64 - 1)

-- A length, where it fits 32 bits.
abbrev pub fitting : ℕ → Option ℕ
fitting n = if nat_lt n (2 ^ 32) then Some n else None
