-- When a refusal may be answered.
use Rattle.std.specs.Prelude.{◌≡◌, ◌⊎◌, Bool, true, false, if◌then◌else◌, List, [], ◌∷◌, Option, Some, None, IsTrue}
use Rattle.protocol_stream.specs.declared.encoder.EncodingError.{EncodingError}
use Rattle.protocol_stream.specs.declared.encoder.EncodingError.TheVariants as encoding
use Rattle.sql_tables.specs.declared.read.ReadError.{ReadError}
use Rattle.sql_tables.specs.declared.read.ReadError.TheVariants as reading
use Rattle.journal_model.specs.Cause.{Tests}
use Rattle.journal_model.specs.declared.cause.Cause.{Cause}
use Rattle.store_refusals.specs.declared.refusal.Refusal.{Refusal}
use Rattle.store_refusals.specs.declared.refusal.Refusal.TheVariants as refusal

-- the least of causes that hold, as a refusal
abbrev pub refusal_of_first_cause : List Cause → Option Refusal
refusal_of_first_cause [] = None
refusal_of_first_cause (c ∷ causes) = Some (refusal.Cause c)

-- the refusal of the first test that holds
abbrev pub refusal_by : Tests → Option Refusal
refusal_by [] = None
refusal_by (test ∷ tests) = if test.0 then Some (refusal.Cause test.1) else refusal_by tests

-- want of memory and a refused statement may be met in any call; they are no cause of an event's
abbrev pub is_circumstance : Refusal → Bool
is_circumstance (refusal.StatementRefused cause) = true
is_circumstance refusal.OutOfMemory = true
is_circumstance _ = false

-- a refusal is that of the least cause, or a circumstance
abbrev pub IsRefused : List Cause → Refusal → Type 0
IsRefused causes why = (refusal_of_first_cause causes ≡ Some why) ⊎ IsTrue (is_circumstance why)

abbrev pub encoding_refusal : EncodingError → Refusal
encoding_refusal encoding.PayloadTooLong = refusal.Cause Cause.PayloadTooLong
encoding_refusal encoding.OutOfMemory = refusal.OutOfMemory

abbrev pub reading_refusal : ReadError → Refusal
reading_refusal (reading.Refused cause) = refusal.StatementRefused cause
reading_refusal reading.Foreign = refusal.ForeignRow
reading_refusal reading.OutOfMemory = refusal.OutOfMemory
