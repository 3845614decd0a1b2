-- Which of two fields a record of this crate has.
use Rattle.std.specs.Prelude.{◌⊎◌}
use Rattle.std.proofs.Common.{inl, inr}
use Rattle.protocol_table.specs.declared.table.complete_awakeable_command.TheConstants as complete_awakeable_command
use Rattle.protocol_records.specs.Choice.{EitherField, failure_at, value_alternative}
use Rattle.protocol_records.specs.declared.failure.Failure.{Failure}
use Rattle.protocol_records.specs.declared.value.Value.{Value}
use Rattle.protocol_calls.specs.declared.complete_awakeable_command.CompleteAwakeableCommandResult.{CompleteAwakeableCommandResult}
use Rattle.protocol_calls.specs.declared.complete_awakeable_command.CompleteAwakeableCommandResult.TheVariants as awakeable_results

abbrev pub awakeable_opened : CompleteAwakeableCommandResult → Value ⊎ Failure
awakeable_opened (awakeable_results.Value v) = inl v
awakeable_opened (awakeable_results.Failure f) = inr f

abbrev pub awakeable_choice : EitherField Value Failure CompleteAwakeableCommandResult
awakeable_choice = record { numbers = complete_awakeable_command.RESULT; first = value_alternative complete_awakeable_command.VALUE.number; second = failure_at complete_awakeable_command.FAILURE.number; of_first = λ v. awakeable_results.Value v; of_second = λ f. awakeable_results.Failure f; opened = awakeable_opened }
