-- Which of two fields a record of this crate has.
use Rattle.std.specs.Prelude.{◌⊎◌}
use Rattle.std.proofs.Common.{inl, inr}
use Rattle.protocol_table.specs.declared.table.complete_promise_command.TheConstants as complete_promise_command
use Rattle.protocol_table.specs.declared.table.get_eager_state_command.TheConstants as get_eager_state_command
use Rattle.protocol_records.specs.Choice.{EitherField, failure_at, value_alternative, void_at}
use Rattle.protocol_records.specs.declared.failure.Failure.{Failure}
use Rattle.protocol_records.specs.declared.value.Value.{Value}
use Rattle.protocol_records.specs.declared.void.Void.{Void}
use Rattle.protocol_commands.specs.declared.complete_promise_command.CompletePromiseCommandCompletion.{CompletePromiseCommandCompletion}
use Rattle.protocol_commands.specs.declared.complete_promise_command.CompletePromiseCommandCompletion.TheVariants as completions
use Rattle.protocol_commands.specs.declared.get_eager_state_command.GetEagerStateCommandResult.{GetEagerStateCommandResult}
use Rattle.protocol_commands.specs.declared.get_eager_state_command.GetEagerStateCommandResult.TheVariants as eager_results

abbrev pub promise_opened : CompletePromiseCommandCompletion → Value ⊎ Failure
promise_opened (completions.CompletionValue c) = inl c
promise_opened (completions.CompletionFailure c) = inr c

abbrev pub promise_choice : EitherField Value Failure CompletePromiseCommandCompletion
promise_choice = record { numbers = complete_promise_command.COMPLETION; first = value_alternative complete_promise_command.COMPLETION_VALUE.number; second = failure_at complete_promise_command.COMPLETION_FAILURE.number; of_first = λ c. completions.CompletionValue c; of_second = λ c. completions.CompletionFailure c; opened = promise_opened }

abbrev pub eager_opened : GetEagerStateCommandResult → Void ⊎ Value
eager_opened (eager_results.Void v) = inl v
eager_opened (eager_results.Value v) = inr v

abbrev pub eager_choice : EitherField Void Value GetEagerStateCommandResult
eager_choice = record { numbers = get_eager_state_command.RESULT; first = void_at get_eager_state_command.VOID.number; second = value_alternative get_eager_state_command.VALUE.number; of_first = λ v. eager_results.Void v; of_second = λ v. eager_results.Value v; opened = eager_opened }
