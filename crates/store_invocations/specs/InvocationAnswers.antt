-- What a closed invocation answers.
use Rattle.std.specs.Prelude.{◌≡◌, ◌⊎◌, ◌<◌, ◌^◌, length, List, [], Option, Some, None, IfSome, option_map, Result, Ok, Err}
use Rattle.journal_model.specs.Notification.{Bytes, Text}
use Rattle.journal_model.specs.declared.value.NonEmptyValue.{NonEmptyValue}
use Rattle.journal_model.specs.Value.{code_taken, failure_recorded, failure_taken}
use Rattle.journal_model.specs.Event.{Event}
use Rattle.journal_model.specs.Journal.{recorded_answer}
use Rattle.protocol_table.specs.declared.table.RecordType.TheVariants.{OutputCommand}
use Rattle.protocol_wire.specs.declared.record.TheConstants.{LEVELS}
use Rattle.protocol_wire.specs.declared.check.Fault.{Fault}
use Rattle.protocol_wire.specs.Check.{payload_fault}
use Rattle.protocol_wire.specs.Fields.{fields}
use Rattle.protocol_records.specs.Choice.{chosen}
use Rattle.protocol_records.specs.OutputCommand.{output_choice}
use Rattle.protocol_stream.specs.Records.{result_told}
use Rattle.store_tables.specs.declared.row.Closing.{Closing}
use Rattle.store_tables.specs.declared.row.Closing.TheVariants.{Ended, Failed}
use Rattle.store_tables.specs.declared.row.LastError.{LastError}
use Rattle.store_tables.specs.declared.row.Progress.{Progress}
use Rattle.store_refusals.specs.declared.refusal.Refusal.{Refusal}
use Rattle.store_refusals.specs.declared.refusal.Refusal.TheVariants.{ForeignRow, OutOfMemory}

-- ---- of a row

-- what is read, or a row that no store writes
abbrev pub ReadsRow : {A : Type 0} → Option A → Result A Refusal → Type 0
ReadsRow there (Ok answer) = there ≡ Some answer
ReadsRow there (Err why) = ((why ≡ ForeignRow) × (there ≡ None)) ⊎ (why ≡ OutOfMemory)

-- what an output puts out; nothing where its payload cannot be read, or lacks a result
abbrev pub output_read : Option Fault → Bytes → Option NonEmptyValue
output_read (Some fault) payload = None
output_read None payload = option_map result_told (chosen output_choice LEVELS (fields payload))

abbrev pub output_in : Bytes → Option NonEmptyValue
output_in payload = output_read (payload_fault LEVELS OutputCommand payload) payload

-- there may be no output
abbrev pub output_by : Option Bytes → Option (Option NonEmptyValue)
output_by None = Some None
output_by (Some payload) = option_map Some (output_in payload)

abbrev pub failure_by : LastError → NonEmptyValue
failure_by error = NonEmptyValue.Failure (record { code = code_taken error.code; message = error.message; metadata = [] })

abbrev pub closed_by : Option Closing → Option Bytes → Option LastError → Option (Option NonEmptyValue)
closed_by None output error = Some None
closed_by (Some Ended) output error = output_by output
closed_by (Some Failed) output error = option_map (λ (one : LastError). Some (failure_by one)) error

abbrev pub answer_by : Progress → Option (Option NonEmptyValue)
answer_by progress = closed_by progress.closing progress.answer progress.last_error

-- the payload of an output that is looked at is one that memory holds
abbrev pub IsShortPayload : Progress → Type 0
IsShortPayload progress = progress.closing ≡ Some Ended → IfSome progress.answer (λ payload. length payload < 2 ^ 64)

-- ---- of the events

-- a failure as it is taken: with a code of sixteen bits
abbrev pub value_taken : NonEmptyValue → NonEmptyValue
value_taken (NonEmptyValue.Success bytes) = NonEmptyValue.Success bytes
value_taken (NonEmptyValue.Failure failure) = NonEmptyValue.Failure (failure_taken (failure_recorded failure))

-- what an invocation answers, as it is told
abbrev pub answer_told : List Event → Text → Option NonEmptyValue
answer_told events id = option_map value_taken (recorded_answer events id)
