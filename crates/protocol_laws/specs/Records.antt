-- The records that stand for requests, notifications and what is waited for.
use Rattle.std.specs.Prelude.{ℕ, List, map, Option, Some, None}
use Rattle.journal_model.specs.Notification.{Arrival, Bytes, Text}
use Rattle.journal_model.specs.declared.notification.NotificationId.{NotificationId}
use Rattle.journal_model.specs.declared.notification.NotificationId.TheVariants as model_ids
use Rattle.journal_model.specs.declared.notification.NotificationResult.{NotificationResult}
use Rattle.journal_model.specs.declared.notification.NotificationResult.TheVariants as model_results
use Rattle.journal_model.specs.declared.value.NonEmptyValue.{NonEmptyValue}
use Rattle.journal_model.specs.declared.call.AttachInvocationTarget.{AttachInvocationTarget}
use Rattle.journal_model.specs.Request.{CallRecord, SignalValue}
use Rattle.journal_model.specs.declared.notification.SignalKey.{SignalKey}
use Rattle.protocol_records.specs.declared.void.Void.{Void}
use Rattle.protocol_records.specs.declared.state_keys.StateKeys.{StateKeys}
use Rattle.protocol_stream.specs.Records.{header_record, value_record, failure_record, arrived_failure_record}
use Rattle.protocol_commands.specs.declared.get_eager_state_command.GetEagerStateCommandResult.{GetEagerStateCommandResult}
use Rattle.protocol_commands.specs.declared.get_eager_state_command.GetEagerStateCommandResult.TheVariants as eager
use Rattle.protocol_commands.specs.declared.complete_promise_command.CompletePromiseCommandCompletion.{CompletePromiseCommandCompletion}
use Rattle.protocol_commands.specs.declared.complete_promise_command.CompletePromiseCommandCompletion.TheVariants as promises
use Rattle.protocol_calls.specs.declared.call_command.CallCommandMessage.{CallCommandMessage}
use Rattle.protocol_calls.specs.declared.one_way_call_command.OneWayCallCommandMessage.{OneWayCallCommandMessage}
use Rattle.protocol_calls.specs.declared.send_signal_command.SendSignalCommandSignalId.{SendSignalCommandSignalId}
use Rattle.protocol_calls.specs.declared.send_signal_command.SendSignalCommandSignalId.TheVariants as signal_ids
use Rattle.protocol_calls.specs.declared.send_signal_command.SendSignalCommandResult.{SendSignalCommandResult}
use Rattle.protocol_calls.specs.declared.send_signal_command.SendSignalCommandResult.TheVariants as signals
use Rattle.protocol_calls.specs.declared.complete_awakeable_command.CompleteAwakeableCommandResult.{CompleteAwakeableCommandResult}
use Rattle.protocol_calls.specs.declared.complete_awakeable_command.CompleteAwakeableCommandResult.TheVariants as awakeables
use Rattle.protocol_calls.specs.declared.workflow_target.WorkflowTarget.{WorkflowTarget}
use Rattle.protocol_calls.specs.declared.idempotent_request_target.IdempotentRequestTarget.{IdempotentRequestTarget}
use Rattle.protocol_calls.specs.declared.invocation_target.InvocationTarget.{InvocationTarget}
use Rattle.protocol_calls.specs.declared.invocation_target.InvocationTarget.TheVariants as targets
use Rattle.protocol_controls.specs.declared.notification.NotificationMessage.{NotificationMessage}
use Rattle.protocol_controls.specs.declared.notification.NotificationMessageId.{NotificationMessageId}
use Rattle.protocol_controls.specs.declared.notification.NotificationMessageId.TheVariants as ids
use Rattle.protocol_controls.specs.declared.notification.NotificationMessageResult.{NotificationMessageResult}
use Rattle.protocol_controls.specs.declared.notification.NotificationMessageResult.TheVariants as results

abbrev pub void_record : Void
void_record = record {}

abbrev pub keys_record : List Bytes → StateKeys
keys_record keys = record { keys = keys }

-- ---- commands

abbrev pub eager_result : Option Bytes → GetEagerStateCommandResult
eager_result None = eager.Void void_record
eager_result (Some bytes) = eager.Value (value_record bytes)

abbrev pub promise_completion : NonEmptyValue → CompletePromiseCommandCompletion
promise_completion (NonEmptyValue.Success bytes) = promises.CompletionValue (value_record bytes)
promise_completion (NonEmptyValue.Failure failure) = promises.CompletionFailure (failure_record failure)

abbrev pub call_record : CallRecord → ℕ → ℕ → Text → CallCommandMessage
call_record call m n name = record {
  service_name = call.service_name;
  handler_name = call.handler_name;
  parameter = call.parameter;
  headers = map header_record call.headers;
  key = call.key;
  idempotency_key = call.idempotency_key;
  scope = call.scope;
  limit_key = call.limit_key;
  invocation_id_notification_idx = m;
  result_completion_id = n;
  name = name;
}

abbrev pub one_way_call_record : CallRecord → ℕ → ℕ → Text → OneWayCallCommandMessage
one_way_call_record call time m name = record {
  service_name = call.service_name;
  handler_name = call.handler_name;
  parameter = call.parameter;
  headers = map header_record call.headers;
  key = call.key;
  idempotency_key = call.idempotency_key;
  scope = call.scope;
  limit_key = call.limit_key;
  invoke_time = time;
  invocation_id_notification_idx = m;
  name = name;
}

abbrev pub signal_id : SignalKey → SendSignalCommandSignalId
signal_id (SignalKey.ByIndex n) = signal_ids.Idx n
signal_id (SignalKey.ByName name) = signal_ids.Name name

abbrev pub signal_record : NonEmptyValue → SendSignalCommandResult
signal_record (NonEmptyValue.Success bytes) = signals.Value (value_record bytes)
signal_record (NonEmptyValue.Failure failure) = signals.Failure (failure_record failure)

abbrev pub signal_result : SignalValue → SendSignalCommandResult
signal_result SignalValue.Empty = signals.Void void_record
signal_result (SignalValue.Carries value) = signal_record value

abbrev pub awakeable_result : NonEmptyValue → CompleteAwakeableCommandResult
awakeable_result (NonEmptyValue.Success bytes) = awakeables.Value (value_record bytes)
awakeable_result (NonEmptyValue.Failure failure) = awakeables.Failure (failure_record failure)

abbrev pub workflow_record : Text → Text → Option Text → WorkflowTarget
workflow_record name key scope = record { workflow_name = name; workflow_key = key; scope = scope }

abbrev pub idempotent_record : Text → Text → Text → Option Text → Option Text → IdempotentRequestTarget
idempotent_record service handler key service_key scope = record { service_name = service; service_key = service_key; handler_name = handler; idempotency_key = key; scope = scope }

abbrev pub target_record : AttachInvocationTarget → InvocationTarget
target_record (AttachInvocationTarget.InvocationId id) = targets.InvocationId id
target_record (AttachInvocationTarget.WorkflowId name key scope) = targets.WorkflowTarget (workflow_record name key scope)
target_record (AttachInvocationTarget.IdempotencyId service handler key service_key scope) = targets.IdempotentRequestTarget (idempotent_record service handler key service_key scope)

-- ---- notifications

abbrev pub id_record : NotificationId → NotificationMessageId
id_record (model_ids.CompletionId n) = ids.CompletionId n
id_record (model_ids.SignalId n) = ids.SignalId n
id_record (model_ids.SignalName name) = ids.SignalName name

abbrev pub result_record : NotificationResult → NotificationMessageResult
result_record model_results.Void = results.Void void_record
result_record (model_results.Value bytes) = results.Value (value_record bytes)
result_record (model_results.Failure failure) = results.Failure (arrived_failure_record failure)
result_record (model_results.InvocationId id) = results.InvocationId id
result_record (model_results.StateKeys keys) = results.StateKeys (keys_record keys)

abbrev pub notification_record : Arrival → NotificationMessage
notification_record arrival = record { id = Some (id_record arrival.id); result = Some (result_record arrival.result) }
