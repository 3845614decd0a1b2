-- Of the commands: payloads that stand for one value lead to one value with the same bytes behind them.
use Rattle.std.proofs.Common.{ap}
use Rattle.std.specs.Prelude.{refl, ℕ, ◌-◌}
use Rattle.protocol_wire.proofs.Joins.{text_joins, u32_joins, optional_text_joins, records_join, u64_joins}
use Rattle.protocol_wire.specs.Fields.{fields}
use Rattle.protocol_records.specs.Failure.{failure_of}
use Rattle.protocol_records.specs.StateKeys.{state_keys_of}
use Rattle.protocol_records.specs.Value.{value_of}
use Rattle.protocol_records.specs.Void.{void_of}
use Rattle.protocol_commands.specs.Fields.{clear_all_state_command_of, clear_state_command_of, get_eager_state_keys_command_of, get_lazy_state_command_of, get_lazy_state_keys_command_of, get_promise_command_of, peek_promise_command_of, run_command_of, set_state_command_of}
use Rattle.protocol_commands.specs.CompletePromiseCommand.{complete_promise_command_of}
use Rattle.protocol_commands.specs.GetEagerStateCommand.{get_eager_state_command_of}
use Rattle.protocol_commands.specs.declared.clear_all_state_command.ClearAllStateCommandMessage.{ClearAllStateCommandMessage}
use Rattle.protocol_commands.specs.declared.clear_state_command.ClearStateCommandMessage.{ClearStateCommandMessage}
use Rattle.protocol_commands.specs.declared.complete_promise_command.CompletePromiseCommandCompletion.{CompletePromiseCommandCompletion}
use Rattle.protocol_commands.specs.declared.complete_promise_command.CompletePromiseCommandMessage.{CompletePromiseCommandMessage}
use Rattle.protocol_commands.specs.declared.get_eager_state_command.GetEagerStateCommandMessage.{GetEagerStateCommandMessage}
use Rattle.protocol_commands.specs.declared.get_eager_state_command.GetEagerStateCommandResult.{GetEagerStateCommandResult}
use Rattle.protocol_commands.specs.declared.get_eager_state_keys_command.GetEagerStateKeysCommandMessage.{GetEagerStateKeysCommandMessage}
use Rattle.protocol_commands.specs.declared.get_lazy_state_command.GetLazyStateCommandMessage.{GetLazyStateCommandMessage}
use Rattle.protocol_commands.specs.declared.get_lazy_state_keys_command.GetLazyStateKeysCommandMessage.{GetLazyStateKeysCommandMessage}
use Rattle.protocol_commands.specs.declared.get_promise_command.GetPromiseCommandMessage.{GetPromiseCommandMessage}
use Rattle.protocol_commands.specs.declared.peek_promise_command.PeekPromiseCommandMessage.{PeekPromiseCommandMessage}
use Rattle.protocol_commands.specs.declared.run_command.RunCommandMessage.{RunCommandMessage}
use Rattle.protocol_commands.specs.declared.set_state_command.SetStateCommandMessage.{SetStateCommandMessage}
use Rattle.protocol_laws.specs.Choices.{Choice, Join, choice_joins, either, held_joins, joined, only, record_variant, text_variant, u32_variant}
use Rattle.protocol_laws.specs.JoinsRecords.{failure_joins, state_keys_joins, value_joins, void_joins}
use Rattle.protocol_table.specs.declared.table.RecordType.TheVariants as types
use Rattle.protocol_table.specs.declared.table.get_lazy_state_command.TheConstants as get_lazy_state_command
use Rattle.protocol_table.specs.declared.table.get_lazy_state_keys_command.TheConstants as get_lazy_state_keys_command
use Rattle.protocol_table.specs.declared.table.get_eager_state_command.TheConstants as get_eager_state_command
use Rattle.protocol_table.specs.declared.table.get_eager_state_keys_command.TheConstants as get_eager_state_keys_command
use Rattle.protocol_table.specs.declared.table.set_state_command.TheConstants as set_state_command
use Rattle.protocol_table.specs.declared.table.clear_state_command.TheConstants as clear_state_command
use Rattle.protocol_table.specs.declared.table.clear_all_state_command.TheConstants as clear_all_state_command
use Rattle.protocol_table.specs.declared.table.get_promise_command.TheConstants as get_promise_command
use Rattle.protocol_table.specs.declared.table.peek_promise_command.TheConstants as peek_promise_command
use Rattle.protocol_table.specs.declared.table.complete_promise_command.TheConstants as complete_promise_command
use Rattle.protocol_table.specs.declared.table.run_command.TheConstants as run_command
use Rattle.protocol_commands.specs.declared.complete_promise_command.CompletePromiseCommandCompletion.TheVariants as completions
use Rattle.protocol_commands.specs.declared.get_eager_state_command.GetEagerStateCommandResult.TheVariants as eager_results
use Rattle.protocol_records.specs.Header.{header_of}
use Rattle.protocol_calls.specs.AttachInvocationCommand.{attach_invocation_command_of}
use Rattle.protocol_calls.specs.Fields.{call_command_of, idempotent_request_target_of, one_way_call_command_of, workflow_target_of}
use Rattle.protocol_calls.specs.CompleteAwakeableCommand.{complete_awakeable_command_of}
use Rattle.protocol_calls.specs.GetInvocationOutputCommand.{get_invocation_output_command_of}
use Rattle.protocol_calls.specs.InvocationTarget.{target_in}
use Rattle.protocol_calls.specs.SendSignalCommand.{send_signal_command_of, signal_id_in, result_in}
use Rattle.protocol_calls.specs.declared.attach_invocation_command.AttachInvocationCommandMessage.{AttachInvocationCommandMessage}
use Rattle.protocol_calls.specs.declared.invocation_target.InvocationTarget.{InvocationTarget}
use Rattle.protocol_calls.specs.declared.call_command.CallCommandMessage.{CallCommandMessage}
use Rattle.protocol_calls.specs.declared.complete_awakeable_command.CompleteAwakeableCommandMessage.{CompleteAwakeableCommandMessage}
use Rattle.protocol_calls.specs.declared.complete_awakeable_command.CompleteAwakeableCommandResult.{CompleteAwakeableCommandResult}
use Rattle.protocol_calls.specs.declared.get_invocation_output_command.GetInvocationOutputCommandMessage.{GetInvocationOutputCommandMessage}
use Rattle.protocol_calls.specs.declared.idempotent_request_target.IdempotentRequestTarget.{IdempotentRequestTarget}
use Rattle.protocol_calls.specs.declared.one_way_call_command.OneWayCallCommandMessage.{OneWayCallCommandMessage}
use Rattle.protocol_calls.specs.declared.send_signal_command.SendSignalCommandMessage.{SendSignalCommandMessage}
use Rattle.protocol_calls.specs.declared.send_signal_command.SendSignalCommandResult.{SendSignalCommandResult}
use Rattle.protocol_calls.specs.declared.send_signal_command.SendSignalCommandSignalId.{SendSignalCommandSignalId}
use Rattle.protocol_calls.specs.declared.workflow_target.WorkflowTarget.{WorkflowTarget}
use Rattle.protocol_table.specs.declared.table.workflow_target.TheConstants as workflow_target
use Rattle.protocol_table.specs.declared.table.idempotent_request_target.TheConstants as idempotent_request_target
use Rattle.protocol_table.specs.declared.table.call_command.TheConstants as call_command
use Rattle.protocol_table.specs.declared.table.one_way_call_command.TheConstants as one_way_call_command
use Rattle.protocol_table.specs.declared.table.send_signal_command.TheConstants as send_signal_command
use Rattle.protocol_table.specs.declared.table.complete_awakeable_command.TheConstants as complete_awakeable_command
use Rattle.protocol_table.specs.declared.table.attach_invocation_command.TheConstants as attach_invocation_command
use Rattle.protocol_table.specs.declared.table.get_invocation_output_command.TheConstants as get_invocation_output_command
use Rattle.protocol_calls.specs.declared.invocation_target.InvocationTarget.TheVariants as targets
use Rattle.protocol_calls.specs.declared.complete_awakeable_command.CompleteAwakeableCommandResult.TheVariants as awakeable_results
use Rattle.protocol_calls.specs.declared.send_signal_command.SendSignalCommandSignalId.TheVariants as signal_ids
use Rattle.protocol_calls.specs.declared.send_signal_command.SendSignalCommandResult.TheVariants as signal_results
use Rattle.protocol_records.specs.Choice.{chosen_in}
use Rattle.protocol_commands.specs.Choices.{promise_choice, eager_choice}
use Rattle.protocol_calls.specs.Choices.{awakeable_choice}

pub get_lazy_state_command_joins : Join types.GetLazyStateCommand get_lazy_state_command_of
get_lazy_state_command_joins levels a b c p q h = joined types.GetLazyStateCommand (get_lazy_state_command_of levels) levels a b c p q (λ i. record {
  key = text_joins get_lazy_state_command.KEY.number (fields a) (fields b) (fields c) (ap (λ (r : GetLazyStateCommandMessage). r.key) h) i;
  result_completion_id = u32_joins get_lazy_state_command.RESULT_COMPLETION_ID.number (fields a) (fields b) (fields c) (ap (λ (r : GetLazyStateCommandMessage). r.result_completion_id) h) i;
  name = text_joins get_lazy_state_command.NAME.number (fields a) (fields b) (fields c) (ap (λ (r : GetLazyStateCommandMessage). r.name) h) i;
})

pub get_lazy_state_keys_command_joins : Join types.GetLazyStateKeysCommand get_lazy_state_keys_command_of
get_lazy_state_keys_command_joins levels a b c p q h = joined types.GetLazyStateKeysCommand (get_lazy_state_keys_command_of levels) levels a b c p q (λ i. record {
  result_completion_id = u32_joins get_lazy_state_keys_command.RESULT_COMPLETION_ID.number (fields a) (fields b) (fields c) (ap (λ (r : GetLazyStateKeysCommandMessage). r.result_completion_id) h) i;
  name = text_joins get_lazy_state_keys_command.NAME.number (fields a) (fields b) (fields c) (ap (λ (r : GetLazyStateKeysCommandMessage). r.name) h) i;
})

abbrev get_eager_state_command_result_number : GetEagerStateCommandResult → ℕ
get_eager_state_command_result_number (eager_results.Void x) = get_eager_state_command.VOID.number
get_eager_state_command_result_number (eager_results.Value x) = get_eager_state_command.VALUE.number

get_eager_state_command_result_choice : (levels : ℕ) → Choice levels types.GetEagerStateCommand get_eager_state_command.RESULT get_eager_state_command_result_number get_eager_state_command.RESULT (chosen_in eager_choice levels)
get_eager_state_command_result_choice levels =
    either get_eager_state_command_result_number (record_variant levels types.GetEagerStateCommand get_eager_state_command.RESULT get_eager_state_command.VOID.number refl types.Void void_of void_joins refl) (λ x. eager_results.Void x) (λ x. refl) (λ x y h. cc) (
    only get_eager_state_command_result_number (record_variant levels types.GetEagerStateCommand get_eager_state_command.RESULT get_eager_state_command.VALUE.number refl types.Value value_of value_joins refl) (λ x. eager_results.Value x) (λ x. refl) (λ x y h. cc)) refl

pub get_eager_state_command_joins : Join types.GetEagerStateCommand get_eager_state_command_of
get_eager_state_command_joins levels a b c p q h = joined types.GetEagerStateCommand (get_eager_state_command_of levels) levels a b c p q (λ i. record {
  key = text_joins get_eager_state_command.KEY.number (fields a) (fields b) (fields c) (ap (λ (r : GetEagerStateCommandMessage). r.key) h) i;
  name = text_joins get_eager_state_command.NAME.number (fields a) (fields b) (fields c) (ap (λ (r : GetEagerStateCommandMessage). r.name) h) i;
  result = choice_joins (get_eager_state_command_result_choice levels) a b c p q (ap (λ (r : GetEagerStateCommandMessage). r.result) h) i;
})

pub get_eager_state_keys_command_joins : Join types.GetEagerStateKeysCommand get_eager_state_keys_command_of
get_eager_state_keys_command_joins levels a b c p q h = joined types.GetEagerStateKeysCommand (get_eager_state_keys_command_of levels) levels a b c p q (λ i. record {
  name = text_joins get_eager_state_keys_command.NAME.number (fields a) (fields b) (fields c) (ap (λ (r : GetEagerStateKeysCommandMessage). r.name) h) i;
  value = held_joins levels types.GetEagerStateKeysCommand types.StateKeys state_keys_of state_keys_joins get_eager_state_keys_command.VALUE.number a b (fields c) p q refl (ap (λ (r : GetEagerStateKeysCommandMessage). r.value) h) i;
})

pub set_state_command_joins : Join types.SetStateCommand set_state_command_of
set_state_command_joins levels a b c p q h = joined types.SetStateCommand (set_state_command_of levels) levels a b c p q (λ i. record {
  key = text_joins set_state_command.KEY.number (fields a) (fields b) (fields c) (ap (λ (r : SetStateCommandMessage). r.key) h) i;
  value = held_joins levels types.SetStateCommand types.Value value_of value_joins set_state_command.VALUE.number a b (fields c) p q refl (ap (λ (r : SetStateCommandMessage). r.value) h) i;
  name = text_joins set_state_command.NAME.number (fields a) (fields b) (fields c) (ap (λ (r : SetStateCommandMessage). r.name) h) i;
})

pub clear_state_command_joins : Join types.ClearStateCommand clear_state_command_of
clear_state_command_joins levels a b c p q h = joined types.ClearStateCommand (clear_state_command_of levels) levels a b c p q (λ i. record {
  key = text_joins clear_state_command.KEY.number (fields a) (fields b) (fields c) (ap (λ (r : ClearStateCommandMessage). r.key) h) i;
  name = text_joins clear_state_command.NAME.number (fields a) (fields b) (fields c) (ap (λ (r : ClearStateCommandMessage). r.name) h) i;
})

pub clear_all_state_command_joins : Join types.ClearAllStateCommand clear_all_state_command_of
clear_all_state_command_joins levels a b c p q h = joined types.ClearAllStateCommand (clear_all_state_command_of levels) levels a b c p q (λ i. record {
  name = text_joins clear_all_state_command.NAME.number (fields a) (fields b) (fields c) (ap (λ (r : ClearAllStateCommandMessage). r.name) h) i;
})

pub get_promise_command_joins : Join types.GetPromiseCommand get_promise_command_of
get_promise_command_joins levels a b c p q h = joined types.GetPromiseCommand (get_promise_command_of levels) levels a b c p q (λ i. record {
  key = text_joins get_promise_command.KEY.number (fields a) (fields b) (fields c) (ap (λ (r : GetPromiseCommandMessage). r.key) h) i;
  result_completion_id = u32_joins get_promise_command.RESULT_COMPLETION_ID.number (fields a) (fields b) (fields c) (ap (λ (r : GetPromiseCommandMessage). r.result_completion_id) h) i;
  name = text_joins get_promise_command.NAME.number (fields a) (fields b) (fields c) (ap (λ (r : GetPromiseCommandMessage). r.name) h) i;
})

pub peek_promise_command_joins : Join types.PeekPromiseCommand peek_promise_command_of
peek_promise_command_joins levels a b c p q h = joined types.PeekPromiseCommand (peek_promise_command_of levels) levels a b c p q (λ i. record {
  key = text_joins peek_promise_command.KEY.number (fields a) (fields b) (fields c) (ap (λ (r : PeekPromiseCommandMessage). r.key) h) i;
  result_completion_id = u32_joins peek_promise_command.RESULT_COMPLETION_ID.number (fields a) (fields b) (fields c) (ap (λ (r : PeekPromiseCommandMessage). r.result_completion_id) h) i;
  name = text_joins peek_promise_command.NAME.number (fields a) (fields b) (fields c) (ap (λ (r : PeekPromiseCommandMessage). r.name) h) i;
})

abbrev complete_promise_command_completion_number : CompletePromiseCommandCompletion → ℕ
complete_promise_command_completion_number (completions.CompletionValue x) = complete_promise_command.COMPLETION_VALUE.number
complete_promise_command_completion_number (completions.CompletionFailure x) = complete_promise_command.COMPLETION_FAILURE.number

complete_promise_command_completion_choice : (levels : ℕ) → Choice levels types.CompletePromiseCommand complete_promise_command.COMPLETION complete_promise_command_completion_number complete_promise_command.COMPLETION (chosen_in promise_choice levels)
complete_promise_command_completion_choice levels =
    either complete_promise_command_completion_number (record_variant levels types.CompletePromiseCommand complete_promise_command.COMPLETION complete_promise_command.COMPLETION_VALUE.number refl types.Value value_of value_joins refl) (λ x. completions.CompletionValue x) (λ x. refl) (λ x y h. cc) (
    only complete_promise_command_completion_number (record_variant levels types.CompletePromiseCommand complete_promise_command.COMPLETION complete_promise_command.COMPLETION_FAILURE.number refl types.Failure failure_of failure_joins refl) (λ x. completions.CompletionFailure x) (λ x. refl) (λ x y h. cc)) refl

pub complete_promise_command_joins : Join types.CompletePromiseCommand complete_promise_command_of
complete_promise_command_joins levels a b c p q h = joined types.CompletePromiseCommand (complete_promise_command_of levels) levels a b c p q (λ i. record {
  key = text_joins complete_promise_command.KEY.number (fields a) (fields b) (fields c) (ap (λ (r : CompletePromiseCommandMessage). r.key) h) i;
  completion = choice_joins (complete_promise_command_completion_choice levels) a b c p q (ap (λ (r : CompletePromiseCommandMessage). r.completion) h) i;
  result_completion_id = u32_joins complete_promise_command.RESULT_COMPLETION_ID.number (fields a) (fields b) (fields c) (ap (λ (r : CompletePromiseCommandMessage). r.result_completion_id) h) i;
  name = text_joins complete_promise_command.NAME.number (fields a) (fields b) (fields c) (ap (λ (r : CompletePromiseCommandMessage). r.name) h) i;
})

pub run_command_joins : Join types.RunCommand run_command_of
run_command_joins levels a b c p q h = joined types.RunCommand (run_command_of levels) levels a b c p q (λ i. record {
  result_completion_id = u32_joins run_command.RESULT_COMPLETION_ID.number (fields a) (fields b) (fields c) (ap (λ (r : RunCommandMessage). r.result_completion_id) h) i;
  name = text_joins run_command.NAME.number (fields a) (fields b) (fields c) (ap (λ (r : RunCommandMessage). r.name) h) i;
})

pub workflow_target_joins : Join types.WorkflowTarget workflow_target_of
workflow_target_joins levels a b c p q h = joined types.WorkflowTarget (workflow_target_of levels) levels a b c p q (λ i. record {
  workflow_name = text_joins workflow_target.WORKFLOW_NAME.number (fields a) (fields b) (fields c) (ap (λ (r : WorkflowTarget). r.workflow_name) h) i;
  workflow_key = text_joins workflow_target.WORKFLOW_KEY.number (fields a) (fields b) (fields c) (ap (λ (r : WorkflowTarget). r.workflow_key) h) i;
  scope = optional_text_joins workflow_target.SCOPE.number (fields a) (fields b) (fields c) (ap (λ (r : WorkflowTarget). r.scope) h) i;
})

pub idempotent_request_target_joins : Join types.IdempotentRequestTarget idempotent_request_target_of
idempotent_request_target_joins levels a b c p q h = joined types.IdempotentRequestTarget (idempotent_request_target_of levels) levels a b c p q (λ i. record {
  service_name = text_joins idempotent_request_target.SERVICE_NAME.number (fields a) (fields b) (fields c) (ap (λ (r : IdempotentRequestTarget). r.service_name) h) i;
  service_key = optional_text_joins idempotent_request_target.SERVICE_KEY.number (fields a) (fields b) (fields c) (ap (λ (r : IdempotentRequestTarget). r.service_key) h) i;
  handler_name = text_joins idempotent_request_target.HANDLER_NAME.number (fields a) (fields b) (fields c) (ap (λ (r : IdempotentRequestTarget). r.handler_name) h) i;
  idempotency_key = text_joins idempotent_request_target.IDEMPOTENCY_KEY.number (fields a) (fields b) (fields c) (ap (λ (r : IdempotentRequestTarget). r.idempotency_key) h) i;
  scope = optional_text_joins idempotent_request_target.SCOPE.number (fields a) (fields b) (fields c) (ap (λ (r : IdempotentRequestTarget). r.scope) h) i;
})

pub call_command_joins : Join types.CallCommand call_command_of
call_command_joins levels a b c p q h = joined types.CallCommand (call_command_of levels) levels a b c p q (λ i. record {
  service_name = text_joins call_command.SERVICE_NAME.number (fields a) (fields b) (fields c) (ap (λ (r : CallCommandMessage). r.service_name) h) i;
  handler_name = text_joins call_command.HANDLER_NAME.number (fields a) (fields b) (fields c) (ap (λ (r : CallCommandMessage). r.handler_name) h) i;
  parameter = text_joins call_command.PARAMETER.number (fields a) (fields b) (fields c) (ap (λ (r : CallCommandMessage). r.parameter) h) i;
  headers = records_join (header_of (levels - 1)) call_command.HEADERS.number (fields a) (fields b) (fields c) (ap (λ (r : CallCommandMessage). r.headers) h) i;
  key = text_joins call_command.KEY.number (fields a) (fields b) (fields c) (ap (λ (r : CallCommandMessage). r.key) h) i;
  idempotency_key = optional_text_joins call_command.IDEMPOTENCY_KEY.number (fields a) (fields b) (fields c) (ap (λ (r : CallCommandMessage). r.idempotency_key) h) i;
  scope = optional_text_joins call_command.SCOPE.number (fields a) (fields b) (fields c) (ap (λ (r : CallCommandMessage). r.scope) h) i;
  limit_key = optional_text_joins call_command.LIMIT_KEY.number (fields a) (fields b) (fields c) (ap (λ (r : CallCommandMessage). r.limit_key) h) i;
  invocation_id_notification_idx = u32_joins call_command.INVOCATION_ID_NOTIFICATION_IDX.number (fields a) (fields b) (fields c) (ap (λ (r : CallCommandMessage). r.invocation_id_notification_idx) h) i;
  result_completion_id = u32_joins call_command.RESULT_COMPLETION_ID.number (fields a) (fields b) (fields c) (ap (λ (r : CallCommandMessage). r.result_completion_id) h) i;
  name = text_joins call_command.NAME.number (fields a) (fields b) (fields c) (ap (λ (r : CallCommandMessage). r.name) h) i;
})

pub one_way_call_command_joins : Join types.OneWayCallCommand one_way_call_command_of
one_way_call_command_joins levels a b c p q h = joined types.OneWayCallCommand (one_way_call_command_of levels) levels a b c p q (λ i. record {
  service_name = text_joins one_way_call_command.SERVICE_NAME.number (fields a) (fields b) (fields c) (ap (λ (r : OneWayCallCommandMessage). r.service_name) h) i;
  handler_name = text_joins one_way_call_command.HANDLER_NAME.number (fields a) (fields b) (fields c) (ap (λ (r : OneWayCallCommandMessage). r.handler_name) h) i;
  parameter = text_joins one_way_call_command.PARAMETER.number (fields a) (fields b) (fields c) (ap (λ (r : OneWayCallCommandMessage). r.parameter) h) i;
  headers = records_join (header_of (levels - 1)) one_way_call_command.HEADERS.number (fields a) (fields b) (fields c) (ap (λ (r : OneWayCallCommandMessage). r.headers) h) i;
  key = text_joins one_way_call_command.KEY.number (fields a) (fields b) (fields c) (ap (λ (r : OneWayCallCommandMessage). r.key) h) i;
  idempotency_key = optional_text_joins one_way_call_command.IDEMPOTENCY_KEY.number (fields a) (fields b) (fields c) (ap (λ (r : OneWayCallCommandMessage). r.idempotency_key) h) i;
  scope = optional_text_joins one_way_call_command.SCOPE.number (fields a) (fields b) (fields c) (ap (λ (r : OneWayCallCommandMessage). r.scope) h) i;
  limit_key = optional_text_joins one_way_call_command.LIMIT_KEY.number (fields a) (fields b) (fields c) (ap (λ (r : OneWayCallCommandMessage). r.limit_key) h) i;
  invoke_time = u64_joins one_way_call_command.INVOKE_TIME.number (fields a) (fields b) (fields c) (ap (λ (r : OneWayCallCommandMessage). r.invoke_time) h) i;
  invocation_id_notification_idx = u32_joins one_way_call_command.INVOCATION_ID_NOTIFICATION_IDX.number (fields a) (fields b) (fields c) (ap (λ (r : OneWayCallCommandMessage). r.invocation_id_notification_idx) h) i;
  name = text_joins one_way_call_command.NAME.number (fields a) (fields b) (fields c) (ap (λ (r : OneWayCallCommandMessage). r.name) h) i;
})

abbrev send_signal_command_signal_id_number : SendSignalCommandSignalId → ℕ
send_signal_command_signal_id_number (signal_ids.Idx x) = send_signal_command.IDX.number
send_signal_command_signal_id_number (signal_ids.Name x) = send_signal_command.NAME.number

send_signal_command_signal_id_choice : (levels : ℕ) → Choice levels types.SendSignalCommand send_signal_command.SIGNAL_ID send_signal_command_signal_id_number send_signal_command.SIGNAL_ID (signal_id_in levels)
send_signal_command_signal_id_choice levels =
    either send_signal_command_signal_id_number (u32_variant levels types.SendSignalCommand send_signal_command.SIGNAL_ID send_signal_command.IDX.number refl refl) (λ x. signal_ids.Idx x) (λ x. refl) (λ x y h. cc) (
    only send_signal_command_signal_id_number (text_variant levels types.SendSignalCommand send_signal_command.SIGNAL_ID send_signal_command.NAME.number refl refl) (λ x. signal_ids.Name x) (λ x. refl) (λ x y h. cc)) refl

abbrev send_signal_command_result_number : SendSignalCommandResult → ℕ
send_signal_command_result_number (signal_results.Void x) = send_signal_command.VOID.number
send_signal_command_result_number (signal_results.Value x) = send_signal_command.VALUE.number
send_signal_command_result_number (signal_results.Failure x) = send_signal_command.FAILURE.number

send_signal_command_result_choice : (levels : ℕ) → Choice levels types.SendSignalCommand send_signal_command.RESULT send_signal_command_result_number send_signal_command.RESULT (result_in levels)
send_signal_command_result_choice levels =
    either send_signal_command_result_number (record_variant levels types.SendSignalCommand send_signal_command.RESULT send_signal_command.VOID.number refl types.Void void_of void_joins refl) (λ x. signal_results.Void x) (λ x. refl) (λ x y h. cc) (
    either send_signal_command_result_number (record_variant levels types.SendSignalCommand send_signal_command.RESULT send_signal_command.VALUE.number refl types.Value value_of value_joins refl) (λ x. signal_results.Value x) (λ x. refl) (λ x y h. cc) (
    only send_signal_command_result_number (record_variant levels types.SendSignalCommand send_signal_command.RESULT send_signal_command.FAILURE.number refl types.Failure failure_of failure_joins refl) (λ x. signal_results.Failure x) (λ x. refl) (λ x y h. cc)) refl) refl

pub send_signal_command_joins : Join types.SendSignalCommand send_signal_command_of
send_signal_command_joins levels a b c p q h = joined types.SendSignalCommand (send_signal_command_of levels) levels a b c p q (λ i. record {
  target_invocation_id = text_joins send_signal_command.TARGET_INVOCATION_ID.number (fields a) (fields b) (fields c) (ap (λ (r : SendSignalCommandMessage). r.target_invocation_id) h) i;
  signal_id = choice_joins (send_signal_command_signal_id_choice levels) a b c p q (ap (λ (r : SendSignalCommandMessage). r.signal_id) h) i;
  result = choice_joins (send_signal_command_result_choice levels) a b c p q (ap (λ (r : SendSignalCommandMessage). r.result) h) i;
  entry_name = text_joins send_signal_command.ENTRY_NAME.number (fields a) (fields b) (fields c) (ap (λ (r : SendSignalCommandMessage). r.entry_name) h) i;
})

abbrev complete_awakeable_command_result_number : CompleteAwakeableCommandResult → ℕ
complete_awakeable_command_result_number (awakeable_results.Value x) = complete_awakeable_command.VALUE.number
complete_awakeable_command_result_number (awakeable_results.Failure x) = complete_awakeable_command.FAILURE.number

complete_awakeable_command_result_choice : (levels : ℕ) → Choice levels types.CompleteAwakeableCommand complete_awakeable_command.RESULT complete_awakeable_command_result_number complete_awakeable_command.RESULT (chosen_in awakeable_choice levels)
complete_awakeable_command_result_choice levels =
    either complete_awakeable_command_result_number (record_variant levels types.CompleteAwakeableCommand complete_awakeable_command.RESULT complete_awakeable_command.VALUE.number refl types.Value value_of value_joins refl) (λ x. awakeable_results.Value x) (λ x. refl) (λ x y h. cc) (
    only complete_awakeable_command_result_number (record_variant levels types.CompleteAwakeableCommand complete_awakeable_command.RESULT complete_awakeable_command.FAILURE.number refl types.Failure failure_of failure_joins refl) (λ x. awakeable_results.Failure x) (λ x. refl) (λ x y h. cc)) refl

pub complete_awakeable_command_joins : Join types.CompleteAwakeableCommand complete_awakeable_command_of
complete_awakeable_command_joins levels a b c p q h = joined types.CompleteAwakeableCommand (complete_awakeable_command_of levels) levels a b c p q (λ i. record {
  awakeable_id = text_joins complete_awakeable_command.AWAKEABLE_ID.number (fields a) (fields b) (fields c) (ap (λ (r : CompleteAwakeableCommandMessage). r.awakeable_id) h) i;
  result = choice_joins (complete_awakeable_command_result_choice levels) a b c p q (ap (λ (r : CompleteAwakeableCommandMessage). r.result) h) i;
  name = text_joins complete_awakeable_command.NAME.number (fields a) (fields b) (fields c) (ap (λ (r : CompleteAwakeableCommandMessage). r.name) h) i;
})

abbrev target_number : InvocationTarget → ℕ
target_number (targets.InvocationId x) = attach_invocation_command.INVOCATION_ID.number
target_number (targets.WorkflowTarget x) = attach_invocation_command.WORKFLOW_TARGET.number
target_number (targets.IdempotentRequestTarget x) = attach_invocation_command.IDEMPOTENT_REQUEST_TARGET.number

attach_invocation_command_target_choice : (levels : ℕ) → Choice levels types.AttachInvocationCommand attach_invocation_command.TARGET target_number attach_invocation_command.TARGET (target_in levels)
attach_invocation_command_target_choice levels =
    either target_number (text_variant levels types.AttachInvocationCommand attach_invocation_command.TARGET attach_invocation_command.INVOCATION_ID.number refl refl) (λ x. targets.InvocationId x) (λ x. refl) (λ x y h. cc) (
    either target_number (record_variant levels types.AttachInvocationCommand attach_invocation_command.TARGET attach_invocation_command.WORKFLOW_TARGET.number refl types.WorkflowTarget workflow_target_of workflow_target_joins refl) (λ x. targets.WorkflowTarget x) (λ x. refl) (λ x y h. cc) (
    only target_number (record_variant levels types.AttachInvocationCommand attach_invocation_command.TARGET attach_invocation_command.IDEMPOTENT_REQUEST_TARGET.number refl types.IdempotentRequestTarget idempotent_request_target_of idempotent_request_target_joins refl) (λ x. targets.IdempotentRequestTarget x) (λ x. refl) (λ x y h. cc)) refl) refl

pub attach_invocation_command_joins : Join types.AttachInvocationCommand attach_invocation_command_of
attach_invocation_command_joins levels a b c p q h = joined types.AttachInvocationCommand (attach_invocation_command_of levels) levels a b c p q (λ i. record {
  target = choice_joins (attach_invocation_command_target_choice levels) a b c p q (ap (λ (r : AttachInvocationCommandMessage). r.target) h) i;
  result_completion_id = u32_joins attach_invocation_command.RESULT_COMPLETION_ID.number (fields a) (fields b) (fields c) (ap (λ (r : AttachInvocationCommandMessage). r.result_completion_id) h) i;
  name = text_joins attach_invocation_command.NAME.number (fields a) (fields b) (fields c) (ap (λ (r : AttachInvocationCommandMessage). r.name) h) i;
})

get_invocation_output_command_target_choice : (levels : ℕ) → Choice levels types.GetInvocationOutputCommand attach_invocation_command.TARGET target_number attach_invocation_command.TARGET (target_in levels)
get_invocation_output_command_target_choice levels =
    either target_number (text_variant levels types.GetInvocationOutputCommand attach_invocation_command.TARGET attach_invocation_command.INVOCATION_ID.number refl refl) (λ x. targets.InvocationId x) (λ x. refl) (λ x y h. cc) (
    either target_number (record_variant levels types.GetInvocationOutputCommand attach_invocation_command.TARGET attach_invocation_command.WORKFLOW_TARGET.number refl types.WorkflowTarget workflow_target_of workflow_target_joins refl) (λ x. targets.WorkflowTarget x) (λ x. refl) (λ x y h. cc) (
    only target_number (record_variant levels types.GetInvocationOutputCommand attach_invocation_command.TARGET attach_invocation_command.IDEMPOTENT_REQUEST_TARGET.number refl types.IdempotentRequestTarget idempotent_request_target_of idempotent_request_target_joins refl) (λ x. targets.IdempotentRequestTarget x) (λ x. refl) (λ x y h. cc)) refl) refl

pub get_invocation_output_command_joins : Join types.GetInvocationOutputCommand get_invocation_output_command_of
get_invocation_output_command_joins levels a b c p q h = joined types.GetInvocationOutputCommand (get_invocation_output_command_of levels) levels a b c p q (λ i. record {
  target = choice_joins (get_invocation_output_command_target_choice levels) a b c p q (ap (λ (r : GetInvocationOutputCommandMessage). r.target) h) i;
  result_completion_id = u32_joins get_invocation_output_command.RESULT_COMPLETION_ID.number (fields a) (fields b) (fields c) (ap (λ (r : GetInvocationOutputCommandMessage). r.result_completion_id) h) i;
  name = text_joins get_invocation_output_command.NAME.number (fields a) (fields b) (fields c) (ap (λ (r : GetInvocationOutputCommandMessage). r.name) h) i;
})
