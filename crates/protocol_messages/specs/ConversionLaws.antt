-- Laws of what is carried.
use Rattle.std.specs.Prelude.{◌≡◌, ◌<◌, ◌^◌}
use Rattle.journal_model.specs.declared.value.NonEmptyValue.{NonEmptyValue}
use Rattle.protocol_stream.specs.Records.{result_record, result_told}

-- the code of a failure has sixteen bits
abbrev pub HasCode : NonEmptyValue → Type 0
HasCode (NonEmptyValue.Success bytes) = Unit {0}
HasCode (NonEmptyValue.Failure failure) = failure.code < 2 ^ 16

abbrev pub OutputsReadBack : Type 0
OutputsReadBack = (value : NonEmptyValue) → HasCode value → result_told (result_record value) ≡ value
