-- The numbers of errors.
use Rattle.std.specs.Prelude.{ℕ, ◌^◌, nat_lt, if◌then◌else◌}
use Rattle.protocol_errors.specs.declared.code.InvocationErrorCode.{InvocationErrorCode}

abbrev pub code_numbered : ℕ → InvocationErrorCode
code_numbered number = record { 0 = number }

-- ---- the codes with a name

abbrev pub bad_request : ℕ
bad_request = 400

abbrev pub unsupported_media_type : ℕ
unsupported_media_type = 415

abbrev pub internal : ℕ
internal = 500

abbrev pub journal_mismatch : ℕ
journal_mismatch = 570

abbrev pub protocol_violation : ℕ
protocol_violation = 571

abbrev pub unsupported_feature : ℕ
unsupported_feature = 573

abbrev pub closed : ℕ
closed = 598

abbrev pub suspended : ℕ
suspended = 599

-- the code with a number of at most 32 bits: internal where it has more than sixteen
abbrev pub code_fitting : ℕ → InvocationErrorCode
code_fitting number = code_numbered (if nat_lt number (2 ^ 16) then number else internal)
