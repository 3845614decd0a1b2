-- The requests that the records of commands stand for. A command lacks what it must have where a choice is absent that each
-- request has; then it stands for none.
use Rattle.std.specs.Prelude.{map, Option, Some, None, option_map, option_and_then}
use Rattle.journal_model.specs.Notification.{Bytes}
use Rattle.journal_model.specs.declared.value.NonEmptyValue.{NonEmptyValue}
use Rattle.journal_model.specs.declared.value.TerminalFailure.{TerminalFailure}
use Rattle.journal_model.specs.declared.call.AttachInvocationTarget.{AttachInvocationTarget}
use Rattle.journal_model.specs.Request.{Request, CallRecord, SignalValue}
use Rattle.journal_model.specs.declared.notification.SignalKey.{SignalKey}
use Rattle.protocol_records.specs.declared.failure.Failure.{Failure as FailureRecord}
use Rattle.protocol_records.specs.declared.value.Value.{Value}
use Rattle.protocol_records.specs.declared.state_keys.StateKeys.{StateKeys}
use Rattle.protocol_records.specs.declared.output_command.OutputCommandResult.{OutputCommandResult}
use Rattle.protocol_records.specs.declared.output_command.OutputCommandResult.TheVariants as outputs
use Rattle.protocol_commands.specs.declared.get_eager_state_command.GetEagerStateCommandResult.{GetEagerStateCommandResult}
use Rattle.protocol_commands.specs.declared.get_eager_state_command.GetEagerStateCommandResult.TheVariants as states
use Rattle.protocol_commands.specs.declared.complete_promise_command.CompletePromiseCommandCompletion.{CompletePromiseCommandCompletion}
use Rattle.protocol_commands.specs.declared.complete_promise_command.CompletePromiseCommandCompletion.TheVariants as promises
use Rattle.protocol_calls.specs.declared.send_signal_command.SendSignalCommandSignalId.{SendSignalCommandSignalId}
use Rattle.protocol_calls.specs.declared.send_signal_command.SendSignalCommandSignalId.TheVariants as signal_ids
use Rattle.protocol_calls.specs.declared.send_signal_command.SendSignalCommandResult.{SendSignalCommandResult}
use Rattle.protocol_calls.specs.declared.send_signal_command.SendSignalCommandResult.TheVariants as signals
use Rattle.protocol_calls.specs.declared.invocation_target.InvocationTarget.{InvocationTarget}
use Rattle.protocol_calls.specs.declared.invocation_target.InvocationTarget.TheVariants as targets
use Rattle.protocol_calls.specs.declared.complete_awakeable_command.CompleteAwakeableCommandResult.{CompleteAwakeableCommandResult}
use Rattle.protocol_calls.specs.declared.complete_awakeable_command.CompleteAwakeableCommandResult.TheVariants as awakeables
use Rattle.protocol_records.specs.declared.output_command.OutputCommandMessage.{OutputCommandMessage}
use Rattle.protocol_commands.specs.declared.get_lazy_state_command.GetLazyStateCommandMessage.{GetLazyStateCommandMessage}
use Rattle.protocol_commands.specs.declared.get_eager_state_command.GetEagerStateCommandMessage.{GetEagerStateCommandMessage}
use Rattle.protocol_commands.specs.declared.get_lazy_state_keys_command.GetLazyStateKeysCommandMessage.{GetLazyStateKeysCommandMessage}
use Rattle.protocol_commands.specs.declared.get_eager_state_keys_command.GetEagerStateKeysCommandMessage.{GetEagerStateKeysCommandMessage}
use Rattle.protocol_commands.specs.declared.set_state_command.SetStateCommandMessage.{SetStateCommandMessage}
use Rattle.protocol_commands.specs.declared.clear_state_command.ClearStateCommandMessage.{ClearStateCommandMessage}
use Rattle.protocol_commands.specs.declared.clear_all_state_command.ClearAllStateCommandMessage.{ClearAllStateCommandMessage}
use Rattle.protocol_commands.specs.declared.get_promise_command.GetPromiseCommandMessage.{GetPromiseCommandMessage}
use Rattle.protocol_commands.specs.declared.peek_promise_command.PeekPromiseCommandMessage.{PeekPromiseCommandMessage}
use Rattle.protocol_commands.specs.declared.complete_promise_command.CompletePromiseCommandMessage.{CompletePromiseCommandMessage}
use Rattle.protocol_records.specs.declared.sleep_command.SleepCommandMessage.{SleepCommandMessage}
use Rattle.protocol_calls.specs.declared.call_command.CallCommandMessage.{CallCommandMessage}
use Rattle.protocol_calls.specs.declared.one_way_call_command.OneWayCallCommandMessage.{OneWayCallCommandMessage}
use Rattle.protocol_calls.specs.declared.send_signal_command.SendSignalCommandMessage.{SendSignalCommandMessage}
use Rattle.protocol_commands.specs.declared.run_command.RunCommandMessage.{RunCommandMessage}
use Rattle.protocol_calls.specs.declared.attach_invocation_command.AttachInvocationCommandMessage.{AttachInvocationCommandMessage}
use Rattle.protocol_calls.specs.declared.get_invocation_output_command.GetInvocationOutputCommandMessage.{GetInvocationOutputCommandMessage}
use Rattle.protocol_calls.specs.declared.complete_awakeable_command.CompleteAwakeableCommandMessage.{CompleteAwakeableCommandMessage}
use Rattle.protocol_stream.specs.Records.{header_told, pair_told}
use Rattle.protocol_laws.specs.Commands.{CommandRecord}

-- ---- what they hold

-- a failure that is put out keeps its code, also one of more than sixteen bits
abbrev pub failure_put_out : FailureRecord → TerminalFailure
failure_put_out failure = record { code = failure.code; message = failure.message; metadata = map pair_told failure.metadata }

abbrev pub value_put_out : OutputCommandResult → NonEmptyValue
value_put_out (outputs.Value value) = NonEmptyValue.Success value.content
value_put_out (outputs.Failure failure) = NonEmptyValue.Failure (failure_put_out failure)

abbrev pub state_told : GetEagerStateCommandResult → Option Bytes
state_told (states.Void void) = None
state_told (states.Value value) = Some value.content

abbrev pub completion_told : CompletePromiseCommandCompletion → NonEmptyValue
completion_told (promises.CompletionValue value) = NonEmptyValue.Success value.content
completion_told (promises.CompletionFailure failure) = NonEmptyValue.Failure (failure_put_out failure)

abbrev pub signal_key_told : SendSignalCommandSignalId → SignalKey
signal_key_told (signal_ids.Idx n) = SignalKey.ByIndex n
signal_key_told (signal_ids.Name name) = SignalKey.ByName name

abbrev pub signal_value_told : SendSignalCommandResult → SignalValue
signal_value_told (signals.Void void) = SignalValue.Empty
signal_value_told (signals.Value value) = SignalValue.Carries (NonEmptyValue.Success value.content)
signal_value_told (signals.Failure failure) = SignalValue.Carries (NonEmptyValue.Failure (failure_put_out failure))

abbrev pub target_told : InvocationTarget → AttachInvocationTarget
target_told (targets.InvocationId id) = AttachInvocationTarget.InvocationId id
target_told (targets.WorkflowTarget one) = AttachInvocationTarget.WorkflowId one.workflow_name one.workflow_key one.scope
target_told (targets.IdempotentRequestTarget one) = AttachInvocationTarget.IdempotencyId one.service_name one.handler_name one.idempotency_key one.service_key one.scope

abbrev pub awakeable_told : CompleteAwakeableCommandResult → NonEmptyValue
awakeable_told (awakeables.Value value) = NonEmptyValue.Success value.content
awakeable_told (awakeables.Failure failure) = NonEmptyValue.Failure (failure_put_out failure)

abbrev pub call_told : CallCommandMessage → CallRecord
call_told one = record { service_name = one.service_name; handler_name = one.handler_name; parameter = one.parameter; headers = map header_told one.headers; key = one.key; idempotency_key = one.idempotency_key; scope = one.scope; limit_key = one.limit_key }

abbrev pub one_way_call_told : OneWayCallCommandMessage → CallRecord
one_way_call_told one = record { service_name = one.service_name; handler_name = one.handler_name; parameter = one.parameter; headers = map header_told one.headers; key = one.key; idempotency_key = one.idempotency_key; scope = one.scope; limit_key = one.limit_key }

-- ---- commands

-- an output has a value or a failure
abbrev pub request_of_output : OutputCommandMessage → Option Request
request_of_output one = option_map (λ result. Request.Output (value_put_out result) one.name) one.result

abbrev pub request_of_get_lazy_state : GetLazyStateCommandMessage → Request
request_of_get_lazy_state one = Request.GetLazyState one.key one.result_completion_id one.name

abbrev pub request_of_get_eager_state : GetEagerStateCommandMessage → Option Request
request_of_get_eager_state one = option_map (λ result. Request.GetEagerState one.key (state_told result) one.name) one.result

abbrev pub request_of_get_lazy_state_keys : GetLazyStateKeysCommandMessage → Request
request_of_get_lazy_state_keys one = Request.GetLazyStateKeys one.result_completion_id one.name

abbrev pub request_of_get_eager_state_keys : GetEagerStateKeysCommandMessage → Option Request
request_of_get_eager_state_keys one = option_map (λ (keys : StateKeys). Request.GetEagerStateKeys keys.keys one.name) one.value

abbrev pub request_of_set_state : SetStateCommandMessage → Option Request
request_of_set_state one = option_map (λ (value : Value). Request.SetState one.key value.content one.name) one.value

abbrev pub request_of_clear_state : ClearStateCommandMessage → Request
request_of_clear_state one = Request.ClearState one.key one.name

abbrev pub request_of_clear_all_state : ClearAllStateCommandMessage → Request
request_of_clear_all_state one = Request.ClearAllState one.name

abbrev pub request_of_get_promise : GetPromiseCommandMessage → Request
request_of_get_promise one = Request.GetPromise one.key one.result_completion_id one.name

abbrev pub request_of_peek_promise : PeekPromiseCommandMessage → Request
request_of_peek_promise one = Request.PeekPromise one.key one.result_completion_id one.name

abbrev pub request_of_complete_promise : CompletePromiseCommandMessage → Option Request
request_of_complete_promise one =
    option_map (λ completion. Request.CompletePromise one.key (completion_told completion) one.result_completion_id one.name) one.completion

abbrev pub request_of_sleep : SleepCommandMessage → Request
request_of_sleep one = Request.Sleep one.wake_up_time one.result_completion_id one.name

-- the invocation's id comes first, its answer second
abbrev pub request_of_call : CallCommandMessage → Request
request_of_call one = Request.CallService (call_told one) one.invocation_id_notification_idx one.result_completion_id one.name

abbrev pub request_of_one_way_call : OneWayCallCommandMessage → Request
request_of_one_way_call one = Request.OneWayCall (one_way_call_told one) one.invoke_time one.invocation_id_notification_idx one.name

-- a signal has a number or a name, and carries something or is said to be empty
abbrev pub request_of_send_signal : SendSignalCommandMessage → Option Request
request_of_send_signal one =
    option_and_then (λ key. option_map (λ value. Request.SendSignal one.target_invocation_id (signal_key_told key) (signal_value_told value) one.entry_name) one.result) one.signal_id

abbrev pub request_of_run : RunCommandMessage → Request
request_of_run one = Request.Run one.result_completion_id one.name

abbrev pub request_of_attach_invocation : AttachInvocationCommandMessage → Option Request
request_of_attach_invocation one = option_map (λ target. Request.AttachInvocation (target_told target) one.result_completion_id one.name) one.target

abbrev pub request_of_get_invocation_output : GetInvocationOutputCommandMessage → Option Request
request_of_get_invocation_output one = option_map (λ target. Request.GetInvocationOutput (target_told target) one.result_completion_id one.name) one.target

abbrev pub request_of_complete_awakeable : CompleteAwakeableCommandMessage → Option Request
request_of_complete_awakeable one = option_map (λ result. Request.CompleteAwakeable one.awakeable_id (awakeable_told result) one.name) one.result

-- the request that a record stands for, whichever command it is
abbrev pub request_told : CommandRecord → Option Request
request_told (CommandRecord.Output one) = request_of_output one
request_told (CommandRecord.GetLazyState one) = Some (request_of_get_lazy_state one)
request_told (CommandRecord.GetEagerState one) = request_of_get_eager_state one
request_told (CommandRecord.GetLazyStateKeys one) = Some (request_of_get_lazy_state_keys one)
request_told (CommandRecord.GetEagerStateKeys one) = request_of_get_eager_state_keys one
request_told (CommandRecord.SetState one) = request_of_set_state one
request_told (CommandRecord.ClearState one) = Some (request_of_clear_state one)
request_told (CommandRecord.ClearAllState one) = Some (request_of_clear_all_state one)
request_told (CommandRecord.GetPromise one) = Some (request_of_get_promise one)
request_told (CommandRecord.PeekPromise one) = Some (request_of_peek_promise one)
request_told (CommandRecord.CompletePromise one) = request_of_complete_promise one
request_told (CommandRecord.Sleep one) = Some (request_of_sleep one)
request_told (CommandRecord.CallService one) = Some (request_of_call one)
request_told (CommandRecord.OneWayCall one) = Some (request_of_one_way_call one)
request_told (CommandRecord.SendSignal one) = request_of_send_signal one
request_told (CommandRecord.Run one) = Some (request_of_run one)
request_told (CommandRecord.AttachInvocation one) = request_of_attach_invocation one
request_told (CommandRecord.GetInvocationOutput one) = request_of_get_invocation_output one
request_told (CommandRecord.CompleteAwakeable one) = request_of_complete_awakeable one
