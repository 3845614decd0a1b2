-- What handlers read of inputs and answers, and put into them.
use Rattle.std.specs.Prelude.{ℕ, ◌+◌, ◌*◌, ◌-◌, ◌^◌, nat_lt, min, if◌then◌else◌, length, take, Option, Some, None, decimal}
use Rattle.std.specs.Int.{from_be_bytes, to_be_bytes, w64}
use Rattle.journal_model.specs.Notification.{Bytes}
use Rattle.journal_model.specs.declared.call.Moment.{Moment}

-- the first eight bytes, as a number; 0 where there are fewer
abbrev pub number_in : Bytes → ℕ
number_in bytes = if nat_lt (length bytes) 8 then 0 else from_be_bytes w64 (take 8 bytes)

-- the number in a value of an object's state; 0 where there is none
abbrev pub count_of : Option Bytes → ℕ
count_of (Some bytes) = number_in bytes
count_of None = 0

-- a number as eight bytes
abbrev pub bytes_of : ℕ → Bytes
bytes_of number = to_be_bytes w64 number

-- a number in decimal digits
abbrev pub text_of : ℕ → Bytes
text_of number = decimal number

-- so many milliseconds behind the moment in the first eight bytes, as nanoseconds
abbrev pub later : Bytes → ℕ → Moment
later input millis = min (number_in input + millis) (2 ^ 64 - 1) * 1_000_000
