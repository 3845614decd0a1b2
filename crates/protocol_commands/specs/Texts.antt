-- How what commands choose among is printed.
use Rattle.std.specs.Prelude.{ℕ, List}
use Rattle.protocol_records.specs.Texts.{failure_text, value_text, void_text}
use Rattle.protocol_commands.specs.declared.get_eager_state_command.GetEagerStateCommandResult.{GetEagerStateCommandResult}
use Rattle.protocol_commands.specs.declared.get_eager_state_command.GetEagerStateCommandResult.TheVariants as states
use Rattle.protocol_commands.specs.declared.complete_promise_command.CompletePromiseCommandCompletion.{CompletePromiseCommandCompletion}
use Rattle.protocol_commands.specs.declared.complete_promise_command.CompletePromiseCommandCompletion.TheVariants as completions

abbrev pub state_result_text : GetEagerStateCommandResult → List ℕ
state_result_text (states.Void void) = void_text void
state_result_text (states.Value value) = value_text value

abbrev pub completion_text : CompletePromiseCommandCompletion → List ℕ
completion_text (completions.CompletionValue value) = value_text value
completion_text (completions.CompletionFailure failure) = failure_text failure
