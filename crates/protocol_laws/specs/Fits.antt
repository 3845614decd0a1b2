-- What was read of a record fits.
use Rattle.std.specs.Prelude.{List, refl, ℕ, ◌-◌}
use Rattle.protocol_wire.proofs.Joins.{IsFine}
use Rattle.protocol_wire.proofs.SoundAt.{level_left, records_sound}
use Rattle.protocol_wire.specs.Fields.{fields}
use Rattle.protocol_wire.specs.Selection.{run, optional_text}
use Rattle.protocol_table.specs.declared.table.RecordType.TheVariants as types
use Rattle.protocol_table.specs.declared.table.failure_metadata.TheConstants as failure_metadata
use Rattle.protocol_table.specs.declared.table.failure.TheConstants as failure
use Rattle.protocol_table.specs.declared.table.header.TheConstants as header
use Rattle.protocol_table.specs.declared.table.start.TheConstants as start
use Rattle.protocol_table.specs.declared.table.suspension_v6.TheConstants as suspension_v6
use Rattle.protocol_table.specs.declared.table.input_command.TheConstants as input_command
use Rattle.protocol_table.specs.declared.table.output_command.TheConstants as output_command
use Rattle.protocol_table.specs.declared.table.sleep_command.TheConstants as sleep_command
use Rattle.protocol_table.specs.declared.table.suspension.TheConstants as suspension
use Rattle.protocol_table.specs.declared.table.awaiting_on.TheConstants as awaiting_on
use Rattle.protocol_table.specs.declared.table.get_lazy_state_command.TheConstants as get_lazy_state_command
use Rattle.protocol_table.specs.declared.table.get_lazy_state_keys_command.TheConstants as get_lazy_state_keys_command
use Rattle.protocol_table.specs.declared.table.get_eager_state_command.TheConstants as get_eager_state_command
use Rattle.protocol_table.specs.declared.table.get_eager_state_keys_command.TheConstants as get_eager_state_keys_command
use Rattle.protocol_table.specs.declared.table.set_state_command.TheConstants as set_state_command
use Rattle.protocol_table.specs.declared.table.clear_state_command.TheConstants as clear_state_command
use Rattle.protocol_table.specs.declared.table.clear_all_state_command.TheConstants as clear_all_state_command
use Rattle.protocol_table.specs.declared.table.get_promise_command.TheConstants as get_promise_command
use Rattle.protocol_table.specs.declared.table.peek_promise_command.TheConstants as peek_promise_command
use Rattle.protocol_table.specs.declared.table.complete_promise_command.TheConstants as complete_promise_command
use Rattle.protocol_table.specs.declared.table.run_command.TheConstants as run_command
use Rattle.protocol_table.specs.declared.table.workflow_target.TheConstants as workflow_target
use Rattle.protocol_table.specs.declared.table.idempotent_request_target.TheConstants as idempotent_request_target
use Rattle.protocol_table.specs.declared.table.call_command.TheConstants as call_command
use Rattle.protocol_table.specs.declared.table.one_way_call_command.TheConstants as one_way_call_command
use Rattle.protocol_table.specs.declared.table.send_signal_command.TheConstants as send_signal_command
use Rattle.protocol_table.specs.declared.table.complete_awakeable_command.TheConstants as complete_awakeable_command
use Rattle.protocol_table.specs.declared.table.attach_invocation_command.TheConstants as attach_invocation_command
use Rattle.protocol_table.specs.declared.table.get_invocation_output_command.TheConstants as get_invocation_output_command
use Rattle.protocol_table.specs.declared.table.error.TheConstants as error
use Rattle.protocol_table.specs.declared.table.propose_run_completion_ack.TheConstants as propose_run_completion_ack
use Rattle.protocol_table.specs.declared.table.propose_run_completion.TheConstants as propose_run_completion
use Rattle.protocol_table.specs.declared.table.get_state_ephemeral_command.TheConstants as get_state_ephemeral_command
use Rattle.protocol_table.specs.declared.table.get_state_ephemeral_notification.TheConstants as get_state_ephemeral_notification
use Rattle.protocol_table.specs.declared.table.notification.TheConstants as notification
use Rattle.protocol_records.specs.AwaitingOn.{AwaitingOnFits, awaiting_on_of}
use Rattle.protocol_records.specs.End.{EndFits, end_message_of}
use Rattle.protocol_records.specs.Failure.{FailureFits, failure_of}
use Rattle.protocol_records.specs.FailureMetadata.{FailureMetadataFits, failure_metadata_of}
use Rattle.protocol_records.specs.Future.{FutureFits, future_of}
use Rattle.protocol_records.specs.Header.{HeaderFits, header_of}
use Rattle.protocol_records.specs.InputCommand.{InputCommandFits, input_command_of}
use Rattle.protocol_records.specs.OutputCommand.{OutputCommandFits, output_command_of, output_choice}
use Rattle.protocol_records.specs.SleepCommand.{SleepCommandFits, sleep_command_of}
use Rattle.protocol_records.specs.Start.{StartFits, start_message_of}
use Rattle.protocol_records.specs.StateEntry.{StateEntryFits, state_entry_of}
use Rattle.protocol_records.specs.StateKeys.{StateKeysFits, state_keys_of}
use Rattle.protocol_records.specs.Suspension.{SuspensionFits, suspension_of}
use Rattle.protocol_records.specs.SuspensionV6.{SuspensionV6Fits, suspension_v6_of}
use Rattle.protocol_records.specs.Value.{ValueFits, value_of}
use Rattle.protocol_records.specs.Void.{VoidFits, void_of}
use Rattle.protocol_records.specs.declared.output_command.OutputCommandResult.TheVariants as output_results
use Rattle.protocol_commands.specs.Fields.{ClearAllStateCommandFits, clear_all_state_command_of, ClearStateCommandFits, clear_state_command_of, GetEagerStateKeysCommandFits, get_eager_state_keys_command_of, GetLazyStateCommandFits, get_lazy_state_command_of, GetLazyStateKeysCommandFits, get_lazy_state_keys_command_of, GetPromiseCommandFits, get_promise_command_of, PeekPromiseCommandFits, peek_promise_command_of, RunCommandFits, run_command_of, SetStateCommandFits, set_state_command_of}
use Rattle.protocol_commands.specs.CompletePromiseCommand.{CompletePromiseCommandFits, complete_promise_command_of}
use Rattle.protocol_commands.specs.GetEagerStateCommand.{GetEagerStateCommandFits, get_eager_state_command_of}
use Rattle.protocol_commands.specs.declared.complete_promise_command.CompletePromiseCommandCompletion.TheVariants as completions
use Rattle.protocol_commands.specs.declared.get_eager_state_command.GetEagerStateCommandResult.TheVariants as eager_results
use Rattle.protocol_calls.specs.AttachInvocationCommand.{AttachInvocationCommandFits, attach_invocation_command_of}
use Rattle.protocol_calls.specs.Fields.{CallCommandFits, call_command_of, IdempotentRequestTargetFits, idempotent_request_target_of, OneWayCallCommandFits, one_way_call_command_of, WorkflowTargetFits, workflow_target_of}
use Rattle.protocol_calls.specs.CompleteAwakeableCommand.{CompleteAwakeableCommandFits, complete_awakeable_command_of}
use Rattle.protocol_calls.specs.GetInvocationOutputCommand.{GetInvocationOutputCommandFits, get_invocation_output_command_of}
use Rattle.protocol_calls.specs.InvocationTarget.{target_of, InvocationTargetFits}
use Rattle.protocol_calls.specs.SendSignalCommand.{SendSignalCommandFits, SendSignalCommandResultFits, SendSignalCommandSignalIdFits, send_signal_command_of, send_signal_command_result_of, send_signal_command_signal_id_of}
use Rattle.protocol_calls.specs.declared.invocation_target.InvocationTarget.TheVariants as targets
use Rattle.protocol_calls.specs.declared.complete_awakeable_command.CompleteAwakeableCommandResult.TheVariants as awakeable_results
use Rattle.protocol_calls.specs.declared.send_signal_command.SendSignalCommandSignalId.TheVariants as signal_ids
use Rattle.protocol_calls.specs.declared.send_signal_command.SendSignalCommandResult.TheVariants as signal_results
use Rattle.protocol_controls.specs.Error.{ErrorFits, error_of}
use Rattle.protocol_controls.specs.GetStateEphemeralCommand.{GetStateEphemeralCommandFits, get_state_ephemeral_command_of}
use Rattle.protocol_controls.specs.GetStateEphemeralNotification.{GetStateEphemeralNotificationFits, get_state_ephemeral_notification_of}
use Rattle.protocol_controls.specs.Notification.{NotificationFits, NotificationMessageIdFits, NotificationMessageResultFits, notification_id_of, notification_of, notification_result_of}
use Rattle.protocol_controls.specs.ProposeRunCompletion.{ProposeRunCompletionFits, propose_run_completion_of}
use Rattle.protocol_controls.specs.ProposeRunCompletionAck.{ProposeRunCompletionAckFits, propose_run_completion_ack_of}
use Rattle.protocol_controls.specs.declared.get_state_ephemeral_notification.GetStateEphemeralNotificationResult.TheVariants as ephemeral_results
use Rattle.protocol_controls.specs.declared.propose_run_completion.ProposeRunCompletionResult.TheVariants as run_results
use Rattle.protocol_controls.specs.declared.notification.NotificationMessageId.TheVariants as ids
use Rattle.protocol_controls.specs.declared.notification.NotificationMessageResult.TheVariants as notification_results
use Rattle.protocol_laws.specs.FitsFuture.{future_fits}
use Rattle.protocol_laws.specs.ReadFits.{ReadFits, ReadOfBytesFits, chosen_record_fits, first_fits, last_fits, numbers_fit, optional_record_fits, optional_text_fits, records_fit, text_fits, texts_fit, u32_fits, u64_fits, chosen_text_fits, optional_u32_fits, any_fits, optional_u64_fits}
use Rattle.protocol_records.specs.Choice.{ChoiceFits, chosen}
use Rattle.protocol_commands.specs.Choices.{promise_choice, eager_choice}
use Rattle.protocol_calls.specs.Choices.{awakeable_choice}
use Rattle.protocol_controls.specs.Choices.{ephemeral_choice, proposal_choice}

-- ---- what other records hold, and the frames of an attempt

pub void_fits : ReadFits types.Void void_of VoidFits
void_fits levels a fine = record {
  level = level_left levels types.Void a fine;
}

pub value_fits : ReadFits types.Value value_of ValueFits
value_fits levels a fine = record {
  level = level_left levels types.Value a fine;
}

pub failure_metadata_fits : ReadFits types.FailureMetadata failure_metadata_of FailureMetadataFits
failure_metadata_fits levels a fine = record {
  level = level_left levels types.FailureMetadata a fine;
  key = text_fits levels types.FailureMetadata failure_metadata.KEY.number a fine refl;
  value = text_fits levels types.FailureMetadata failure_metadata.VALUE.number a fine refl;
}

pub failure_fits : ReadFits types.Failure failure_of FailureFits
failure_fits levels a fine = record {
  level = level_left levels types.Failure a fine;
  code = u32_fits failure.CODE.number (fields a);
  message = text_fits levels types.Failure failure.MESSAGE.number a fine refl;
  metadata = records_fit (levels - 1) types.FailureMetadata (failure_metadata_of (levels - 1)) (FailureMetadataFits (levels - 1)) (failure_metadata_fits (levels - 1)) failure.METADATA.number (fields a) (records_sound levels types.Failure types.FailureMetadata failure.METADATA.number a fine refl);
}

pub header_fits : ReadFits types.Header header_of HeaderFits
header_fits levels a fine = record {
  level = level_left levels types.Header a fine;
  key = text_fits levels types.Header header.KEY.number a fine refl;
  value = text_fits levels types.Header header.VALUE.number a fine refl;
}

pub state_entry_fits : ReadFits types.StateEntry state_entry_of StateEntryFits
state_entry_fits levels a fine = record {
  level = level_left levels types.StateEntry a fine;
}

pub state_keys_fits : ReadFits types.StateKeys state_keys_of StateKeysFits
state_keys_fits levels a fine = record {
  level = level_left levels types.StateKeys a fine;
}

pub start_fits : ReadOfBytesFits types.Start start_message_of StartFits
start_fits levels a are_bytes fine = record {
  level = level_left levels types.Start a fine;
  debug_id = text_fits levels types.Start start.DEBUG_ID.number a fine refl;
  known_entries = u32_fits start.KNOWN_ENTRIES.number (fields a);
  state_map = records_fit (levels - 1) types.StateEntry (state_entry_of (levels - 1)) (StateEntryFits (levels - 1)) (state_entry_fits (levels - 1)) start.STATE_MAP.number (fields a) (records_sound levels types.Start types.StateEntry start.STATE_MAP.number a fine refl);
  key = text_fits levels types.Start start.KEY.number a fine refl;
  retry_count_since_last_stored_entry = u32_fits start.RETRY_COUNT_SINCE_LAST_STORED_ENTRY.number (fields a);
  duration_since_last_stored_entry = u64_fits start.DURATION_SINCE_LAST_STORED_ENTRY.number a are_bytes;
  random_seed = u64_fits start.RANDOM_SEED.number a are_bytes;
  scope = optional_text_fits levels types.Start start.SCOPE.number a fine refl;
  limit_key = optional_text_fits levels types.Start start.LIMIT_KEY.number a fine refl;
  idempotency_key = optional_text_fits levels types.Start start.IDEMPOTENCY_KEY.number a fine refl;
}

pub suspension_v6_fits : ReadFits types.SuspensionV6 suspension_v6_of SuspensionV6Fits
suspension_v6_fits levels a fine = record {
  level = level_left levels types.SuspensionV6 a fine;
  waiting_completions = numbers_fit suspension_v6.WAITING_COMPLETIONS.number (fields a);
  waiting_signals = numbers_fit suspension_v6.WAITING_SIGNALS.number (fields a);
  waiting_named_signals = texts_fit levels types.SuspensionV6 suspension_v6.WAITING_NAMED_SIGNALS.number a fine refl;
}

pub end_fits : ReadFits types.End end_message_of EndFits
end_fits levels a fine = record {
  level = level_left levels types.End a fine;
}

pub input_command_fits : ReadFits types.InputCommand input_command_of InputCommandFits
input_command_fits levels a fine = record {
  level = level_left levels types.InputCommand a fine;
  headers = records_fit (levels - 1) types.Header (header_of (levels - 1)) (HeaderFits (levels - 1)) (header_fits (levels - 1)) input_command.HEADERS.number (fields a) (records_sound levels types.InputCommand types.Header input_command.HEADERS.number a fine refl);
  name = text_fits levels types.InputCommand input_command.NAME.number a fine refl;
  value = optional_record_fits (levels - 1) types.Value (value_of (levels - 1)) (ValueFits (levels - 1)) (value_fits (levels - 1)) input_command.VALUE.number (fields a) (records_sound levels types.InputCommand types.Value input_command.VALUE.number a fine refl);
}

output_command_result_fits : (levels : ℕ) (a : List ℕ) → IsFine levels types.OutputCommand a → ChoiceFits output_choice (levels - 1) (chosen output_choice levels (fields a))
output_command_result_fits levels a fine =
    first_fits (λ x. output_results.Value x) (ChoiceFits output_choice (levels - 1)) _ _ (chosen_record_fits levels types.OutputCommand output_command.RESULT output_command.VALUE.number a fine refl types.Value refl value_of ValueFits value_fits) (
    last_fits (λ x. output_results.Failure x) (ChoiceFits output_choice (levels - 1)) _ (chosen_record_fits levels types.OutputCommand output_command.RESULT output_command.FAILURE.number a fine refl types.Failure refl failure_of FailureFits failure_fits) tt)

pub output_command_fits : ReadFits types.OutputCommand output_command_of OutputCommandFits
output_command_fits levels a fine = record {
  level = level_left levels types.OutputCommand a fine;
  name = text_fits levels types.OutputCommand output_command.NAME.number a fine refl;
  result = output_command_result_fits levels a fine;
}

pub sleep_command_fits : ReadOfBytesFits types.SleepCommand sleep_command_of SleepCommandFits
sleep_command_fits levels a are_bytes fine = record {
  level = level_left levels types.SleepCommand a fine;
  wake_up_time = u64_fits sleep_command.WAKE_UP_TIME.number a are_bytes;
  result_completion_id = u32_fits sleep_command.RESULT_COMPLETION_ID.number (fields a);
  name = text_fits levels types.SleepCommand sleep_command.NAME.number a fine refl;
}

pub suspension_fits : ReadFits types.Suspension suspension_of SuspensionFits
suspension_fits levels a fine = record {
  level = level_left levels types.Suspension a fine;
  awaiting_on = optional_record_fits (levels - 1) types.Future (future_of (levels - 1)) (FutureFits (levels - 1)) (future_fits (levels - 1)) suspension.AWAITING_ON.number (fields a) (records_sound levels types.Suspension types.Future suspension.AWAITING_ON.number a fine refl);
}

pub awaiting_on_fits : ReadFits types.AwaitingOn awaiting_on_of AwaitingOnFits
awaiting_on_fits levels a fine = record {
  level = level_left levels types.AwaitingOn a fine;
  awaiting_on = optional_record_fits (levels - 1) types.Future (future_of (levels - 1)) (FutureFits (levels - 1)) (future_fits (levels - 1)) awaiting_on.AWAITING_ON.number (fields a) (records_sound levels types.AwaitingOn types.Future awaiting_on.AWAITING_ON.number a fine refl);
}

-- ---- the commands that stay within an invocation

pub get_lazy_state_command_fits : ReadFits types.GetLazyStateCommand get_lazy_state_command_of GetLazyStateCommandFits
get_lazy_state_command_fits levels a fine = record {
  level = level_left levels types.GetLazyStateCommand a fine;
  result_completion_id = u32_fits get_lazy_state_command.RESULT_COMPLETION_ID.number (fields a);
  name = text_fits levels types.GetLazyStateCommand get_lazy_state_command.NAME.number a fine refl;
}

pub get_lazy_state_keys_command_fits : ReadFits types.GetLazyStateKeysCommand get_lazy_state_keys_command_of GetLazyStateKeysCommandFits
get_lazy_state_keys_command_fits levels a fine = record {
  level = level_left levels types.GetLazyStateKeysCommand a fine;
  result_completion_id = u32_fits get_lazy_state_keys_command.RESULT_COMPLETION_ID.number (fields a);
  name = text_fits levels types.GetLazyStateKeysCommand get_lazy_state_keys_command.NAME.number a fine refl;
}

get_eager_state_command_result_fits : (levels : ℕ) (a : List ℕ) → IsFine levels types.GetEagerStateCommand a → ChoiceFits eager_choice (levels - 1) (chosen eager_choice levels (fields a))
get_eager_state_command_result_fits levels a fine =
    first_fits (λ x. eager_results.Void x) (ChoiceFits eager_choice (levels - 1)) _ _ (chosen_record_fits levels types.GetEagerStateCommand get_eager_state_command.RESULT get_eager_state_command.VOID.number a fine refl types.Void refl void_of VoidFits void_fits) (
    last_fits (λ x. eager_results.Value x) (ChoiceFits eager_choice (levels - 1)) _ (chosen_record_fits levels types.GetEagerStateCommand get_eager_state_command.RESULT get_eager_state_command.VALUE.number a fine refl types.Value refl value_of ValueFits value_fits) tt)

pub get_eager_state_command_fits : ReadFits types.GetEagerStateCommand get_eager_state_command_of GetEagerStateCommandFits
get_eager_state_command_fits levels a fine = record {
  level = level_left levels types.GetEagerStateCommand a fine;
  name = text_fits levels types.GetEagerStateCommand get_eager_state_command.NAME.number a fine refl;
  result = get_eager_state_command_result_fits levels a fine;
}

pub get_eager_state_keys_command_fits : ReadFits types.GetEagerStateKeysCommand get_eager_state_keys_command_of GetEagerStateKeysCommandFits
get_eager_state_keys_command_fits levels a fine = record {
  level = level_left levels types.GetEagerStateKeysCommand a fine;
  name = text_fits levels types.GetEagerStateKeysCommand get_eager_state_keys_command.NAME.number a fine refl;
  value = optional_record_fits (levels - 1) types.StateKeys (state_keys_of (levels - 1)) (StateKeysFits (levels - 1)) (state_keys_fits (levels - 1)) get_eager_state_keys_command.VALUE.number (fields a) (records_sound levels types.GetEagerStateKeysCommand types.StateKeys get_eager_state_keys_command.VALUE.number a fine refl);
}

pub set_state_command_fits : ReadFits types.SetStateCommand set_state_command_of SetStateCommandFits
set_state_command_fits levels a fine = record {
  level = level_left levels types.SetStateCommand a fine;
  value = optional_record_fits (levels - 1) types.Value (value_of (levels - 1)) (ValueFits (levels - 1)) (value_fits (levels - 1)) set_state_command.VALUE.number (fields a) (records_sound levels types.SetStateCommand types.Value set_state_command.VALUE.number a fine refl);
  name = text_fits levels types.SetStateCommand set_state_command.NAME.number a fine refl;
}

pub clear_state_command_fits : ReadFits types.ClearStateCommand clear_state_command_of ClearStateCommandFits
clear_state_command_fits levels a fine = record {
  level = level_left levels types.ClearStateCommand a fine;
  name = text_fits levels types.ClearStateCommand clear_state_command.NAME.number a fine refl;
}

pub clear_all_state_command_fits : ReadFits types.ClearAllStateCommand clear_all_state_command_of ClearAllStateCommandFits
clear_all_state_command_fits levels a fine = record {
  level = level_left levels types.ClearAllStateCommand a fine;
  name = text_fits levels types.ClearAllStateCommand clear_all_state_command.NAME.number a fine refl;
}

pub get_promise_command_fits : ReadFits types.GetPromiseCommand get_promise_command_of GetPromiseCommandFits
get_promise_command_fits levels a fine = record {
  level = level_left levels types.GetPromiseCommand a fine;
  key = text_fits levels types.GetPromiseCommand get_promise_command.KEY.number a fine refl;
  result_completion_id = u32_fits get_promise_command.RESULT_COMPLETION_ID.number (fields a);
  name = text_fits levels types.GetPromiseCommand get_promise_command.NAME.number a fine refl;
}

pub peek_promise_command_fits : ReadFits types.PeekPromiseCommand peek_promise_command_of PeekPromiseCommandFits
peek_promise_command_fits levels a fine = record {
  level = level_left levels types.PeekPromiseCommand a fine;
  key = text_fits levels types.PeekPromiseCommand peek_promise_command.KEY.number a fine refl;
  result_completion_id = u32_fits peek_promise_command.RESULT_COMPLETION_ID.number (fields a);
  name = text_fits levels types.PeekPromiseCommand peek_promise_command.NAME.number a fine refl;
}

complete_promise_command_completion_fits : (levels : ℕ) (a : List ℕ) → IsFine levels types.CompletePromiseCommand a → ChoiceFits promise_choice (levels - 1) (chosen promise_choice levels (fields a))
complete_promise_command_completion_fits levels a fine =
    first_fits (λ x. completions.CompletionValue x) (ChoiceFits promise_choice (levels - 1)) _ _ (chosen_record_fits levels types.CompletePromiseCommand complete_promise_command.COMPLETION complete_promise_command.COMPLETION_VALUE.number a fine refl types.Value refl value_of ValueFits value_fits) (
    last_fits (λ x. completions.CompletionFailure x) (ChoiceFits promise_choice (levels - 1)) _ (chosen_record_fits levels types.CompletePromiseCommand complete_promise_command.COMPLETION complete_promise_command.COMPLETION_FAILURE.number a fine refl types.Failure refl failure_of FailureFits failure_fits) tt)

pub complete_promise_command_fits : ReadFits types.CompletePromiseCommand complete_promise_command_of CompletePromiseCommandFits
complete_promise_command_fits levels a fine = record {
  level = level_left levels types.CompletePromiseCommand a fine;
  key = text_fits levels types.CompletePromiseCommand complete_promise_command.KEY.number a fine refl;
  completion = complete_promise_command_completion_fits levels a fine;
  result_completion_id = u32_fits complete_promise_command.RESULT_COMPLETION_ID.number (fields a);
  name = text_fits levels types.CompletePromiseCommand complete_promise_command.NAME.number a fine refl;
}

pub run_command_fits : ReadFits types.RunCommand run_command_of RunCommandFits
run_command_fits levels a fine = record {
  level = level_left levels types.RunCommand a fine;
  result_completion_id = u32_fits run_command.RESULT_COMPLETION_ID.number (fields a);
  name = text_fits levels types.RunCommand run_command.NAME.number a fine refl;
}

-- ---- the commands towards other invocations

pub workflow_target_fits : ReadFits types.WorkflowTarget workflow_target_of WorkflowTargetFits
workflow_target_fits levels a fine = record {
  level = level_left levels types.WorkflowTarget a fine;
  workflow_name = text_fits levels types.WorkflowTarget workflow_target.WORKFLOW_NAME.number a fine refl;
  workflow_key = text_fits levels types.WorkflowTarget workflow_target.WORKFLOW_KEY.number a fine refl;
  scope = optional_text_fits levels types.WorkflowTarget workflow_target.SCOPE.number a fine refl;
}

pub idempotent_request_target_fits : ReadFits types.IdempotentRequestTarget idempotent_request_target_of IdempotentRequestTargetFits
idempotent_request_target_fits levels a fine = record {
  level = level_left levels types.IdempotentRequestTarget a fine;
  service_name = text_fits levels types.IdempotentRequestTarget idempotent_request_target.SERVICE_NAME.number a fine refl;
  service_key = optional_text_fits levels types.IdempotentRequestTarget idempotent_request_target.SERVICE_KEY.number a fine refl;
  handler_name = text_fits levels types.IdempotentRequestTarget idempotent_request_target.HANDLER_NAME.number a fine refl;
  idempotency_key = text_fits levels types.IdempotentRequestTarget idempotent_request_target.IDEMPOTENCY_KEY.number a fine refl;
  scope = optional_text_fits levels types.IdempotentRequestTarget idempotent_request_target.SCOPE.number a fine refl;
}

pub call_command_fits : ReadFits types.CallCommand call_command_of CallCommandFits
call_command_fits levels a fine = record {
  level = level_left levels types.CallCommand a fine;
  service_name = text_fits levels types.CallCommand call_command.SERVICE_NAME.number a fine refl;
  handler_name = text_fits levels types.CallCommand call_command.HANDLER_NAME.number a fine refl;
  headers = records_fit (levels - 1) types.Header (header_of (levels - 1)) (HeaderFits (levels - 1)) (header_fits (levels - 1)) call_command.HEADERS.number (fields a) (records_sound levels types.CallCommand types.Header call_command.HEADERS.number a fine refl);
  key = text_fits levels types.CallCommand call_command.KEY.number a fine refl;
  idempotency_key = optional_text_fits levels types.CallCommand call_command.IDEMPOTENCY_KEY.number a fine refl;
  scope = optional_text_fits levels types.CallCommand call_command.SCOPE.number a fine refl;
  limit_key = optional_text_fits levels types.CallCommand call_command.LIMIT_KEY.number a fine refl;
  invocation_id_notification_idx = u32_fits call_command.INVOCATION_ID_NOTIFICATION_IDX.number (fields a);
  result_completion_id = u32_fits call_command.RESULT_COMPLETION_ID.number (fields a);
  name = text_fits levels types.CallCommand call_command.NAME.number a fine refl;
}

pub one_way_call_command_fits : ReadOfBytesFits types.OneWayCallCommand one_way_call_command_of OneWayCallCommandFits
one_way_call_command_fits levels a are_bytes fine = record {
  level = level_left levels types.OneWayCallCommand a fine;
  service_name = text_fits levels types.OneWayCallCommand one_way_call_command.SERVICE_NAME.number a fine refl;
  handler_name = text_fits levels types.OneWayCallCommand one_way_call_command.HANDLER_NAME.number a fine refl;
  headers = records_fit (levels - 1) types.Header (header_of (levels - 1)) (HeaderFits (levels - 1)) (header_fits (levels - 1)) one_way_call_command.HEADERS.number (fields a) (records_sound levels types.OneWayCallCommand types.Header one_way_call_command.HEADERS.number a fine refl);
  key = text_fits levels types.OneWayCallCommand one_way_call_command.KEY.number a fine refl;
  idempotency_key = optional_text_fits levels types.OneWayCallCommand one_way_call_command.IDEMPOTENCY_KEY.number a fine refl;
  scope = optional_text_fits levels types.OneWayCallCommand one_way_call_command.SCOPE.number a fine refl;
  limit_key = optional_text_fits levels types.OneWayCallCommand one_way_call_command.LIMIT_KEY.number a fine refl;
  invoke_time = u64_fits one_way_call_command.INVOKE_TIME.number a are_bytes;
  invocation_id_notification_idx = u32_fits one_way_call_command.INVOCATION_ID_NOTIFICATION_IDX.number (fields a);
  name = text_fits levels types.OneWayCallCommand one_way_call_command.NAME.number a fine refl;
}

send_signal_command_signal_id_fits : (levels : ℕ) (a : List ℕ) → IsFine levels types.SendSignalCommand a → SendSignalCommandSignalIdFits (levels - 1) (send_signal_command_signal_id_of levels (fields a))
send_signal_command_signal_id_fits levels a fine =
    first_fits (λ x. signal_ids.Idx x) (SendSignalCommandSignalIdFits (levels - 1)) _ _ (optional_u32_fits send_signal_command.IDX.number (run send_signal_command.SIGNAL_ID (fields a))) (
    last_fits (λ x. signal_ids.Name x) (SendSignalCommandSignalIdFits (levels - 1)) _ (chosen_text_fits levels types.SendSignalCommand send_signal_command.NAME.number a fine refl send_signal_command.SIGNAL_ID refl) tt)

send_signal_command_result_fits : (levels : ℕ) (a : List ℕ) → IsFine levels types.SendSignalCommand a → SendSignalCommandResultFits (levels - 1) (send_signal_command_result_of levels (fields a))
send_signal_command_result_fits levels a fine =
    first_fits (λ x. signal_results.Void x) (SendSignalCommandResultFits (levels - 1)) _ _ (chosen_record_fits levels types.SendSignalCommand send_signal_command.RESULT send_signal_command.VOID.number a fine refl types.Void refl void_of VoidFits void_fits) (
    first_fits (λ x. signal_results.Value x) (SendSignalCommandResultFits (levels - 1)) _ _ (chosen_record_fits levels types.SendSignalCommand send_signal_command.RESULT send_signal_command.VALUE.number a fine refl types.Value refl value_of ValueFits value_fits) (
    last_fits (λ x. signal_results.Failure x) (SendSignalCommandResultFits (levels - 1)) _ (chosen_record_fits levels types.SendSignalCommand send_signal_command.RESULT send_signal_command.FAILURE.number a fine refl types.Failure refl failure_of FailureFits failure_fits) tt))

pub send_signal_command_fits : ReadFits types.SendSignalCommand send_signal_command_of SendSignalCommandFits
send_signal_command_fits levels a fine = record {
  level = level_left levels types.SendSignalCommand a fine;
  target_invocation_id = text_fits levels types.SendSignalCommand send_signal_command.TARGET_INVOCATION_ID.number a fine refl;
  signal_id = send_signal_command_signal_id_fits levels a fine;
  result = send_signal_command_result_fits levels a fine;
  entry_name = text_fits levels types.SendSignalCommand send_signal_command.ENTRY_NAME.number a fine refl;
}

complete_awakeable_command_result_fits : (levels : ℕ) (a : List ℕ) → IsFine levels types.CompleteAwakeableCommand a → ChoiceFits awakeable_choice (levels - 1) (chosen awakeable_choice levels (fields a))
complete_awakeable_command_result_fits levels a fine =
    first_fits (λ x. awakeable_results.Value x) (ChoiceFits awakeable_choice (levels - 1)) _ _ (chosen_record_fits levels types.CompleteAwakeableCommand complete_awakeable_command.RESULT complete_awakeable_command.VALUE.number a fine refl types.Value refl value_of ValueFits value_fits) (
    last_fits (λ x. awakeable_results.Failure x) (ChoiceFits awakeable_choice (levels - 1)) _ (chosen_record_fits levels types.CompleteAwakeableCommand complete_awakeable_command.RESULT complete_awakeable_command.FAILURE.number a fine refl types.Failure refl failure_of FailureFits failure_fits) tt)

pub complete_awakeable_command_fits : ReadFits types.CompleteAwakeableCommand complete_awakeable_command_of CompleteAwakeableCommandFits
complete_awakeable_command_fits levels a fine = record {
  level = level_left levels types.CompleteAwakeableCommand a fine;
  awakeable_id = text_fits levels types.CompleteAwakeableCommand complete_awakeable_command.AWAKEABLE_ID.number a fine refl;
  result = complete_awakeable_command_result_fits levels a fine;
  name = text_fits levels types.CompleteAwakeableCommand complete_awakeable_command.NAME.number a fine refl;
}

attach_invocation_command_target_fits : (levels : ℕ) (a : List ℕ) → IsFine levels types.AttachInvocationCommand a → InvocationTargetFits (levels - 1) (target_of levels (fields a))
attach_invocation_command_target_fits levels a fine =
    first_fits (λ x. targets.InvocationId x) (InvocationTargetFits (levels - 1)) _ _ (chosen_text_fits levels types.AttachInvocationCommand attach_invocation_command.INVOCATION_ID.number a fine refl attach_invocation_command.TARGET refl) (
    first_fits (λ x. targets.WorkflowTarget x) (InvocationTargetFits (levels - 1)) _ _ (chosen_record_fits levels types.AttachInvocationCommand attach_invocation_command.TARGET attach_invocation_command.WORKFLOW_TARGET.number a fine refl types.WorkflowTarget refl workflow_target_of WorkflowTargetFits workflow_target_fits) (
    last_fits (λ x. targets.IdempotentRequestTarget x) (InvocationTargetFits (levels - 1)) _ (chosen_record_fits levels types.AttachInvocationCommand attach_invocation_command.TARGET attach_invocation_command.IDEMPOTENT_REQUEST_TARGET.number a fine refl types.IdempotentRequestTarget refl idempotent_request_target_of IdempotentRequestTargetFits idempotent_request_target_fits) tt))

pub attach_invocation_command_fits : ReadFits types.AttachInvocationCommand attach_invocation_command_of AttachInvocationCommandFits
attach_invocation_command_fits levels a fine = record {
  level = level_left levels types.AttachInvocationCommand a fine;
  target = attach_invocation_command_target_fits levels a fine;
  result_completion_id = u32_fits attach_invocation_command.RESULT_COMPLETION_ID.number (fields a);
  name = text_fits levels types.AttachInvocationCommand attach_invocation_command.NAME.number a fine refl;
}

get_invocation_output_command_target_fits : (levels : ℕ) (a : List ℕ) → IsFine levels types.GetInvocationOutputCommand a → InvocationTargetFits (levels - 1) (target_of levels (fields a))
get_invocation_output_command_target_fits levels a fine =
    first_fits (λ x. targets.InvocationId x) (InvocationTargetFits (levels - 1)) _ _ (chosen_text_fits levels types.GetInvocationOutputCommand get_invocation_output_command.INVOCATION_ID.number a fine refl get_invocation_output_command.TARGET refl) (
    first_fits (λ x. targets.WorkflowTarget x) (InvocationTargetFits (levels - 1)) _ _ (chosen_record_fits levels types.GetInvocationOutputCommand get_invocation_output_command.TARGET get_invocation_output_command.WORKFLOW_TARGET.number a fine refl types.WorkflowTarget refl workflow_target_of WorkflowTargetFits workflow_target_fits) (
    last_fits (λ x. targets.IdempotentRequestTarget x) (InvocationTargetFits (levels - 1)) _ (chosen_record_fits levels types.GetInvocationOutputCommand get_invocation_output_command.TARGET get_invocation_output_command.IDEMPOTENT_REQUEST_TARGET.number a fine refl types.IdempotentRequestTarget refl idempotent_request_target_of IdempotentRequestTargetFits idempotent_request_target_fits) tt))

pub get_invocation_output_command_fits : ReadFits types.GetInvocationOutputCommand get_invocation_output_command_of GetInvocationOutputCommandFits
get_invocation_output_command_fits levels a fine = record {
  level = level_left levels types.GetInvocationOutputCommand a fine;
  target = get_invocation_output_command_target_fits levels a fine;
  result_completion_id = u32_fits get_invocation_output_command.RESULT_COMPLETION_ID.number (fields a);
  name = text_fits levels types.GetInvocationOutputCommand get_invocation_output_command.NAME.number a fine refl;
}

-- ---- the control frames and the notifications

pub error_fits : ReadOfBytesFits types.Error error_of ErrorFits
error_fits levels a are_bytes fine = record {
  level = level_left levels types.Error a fine;
  code = u32_fits error.CODE.number (fields a);
  message = text_fits levels types.Error error.MESSAGE.number a fine refl;
  related_command_index = optional_u32_fits error.RELATED_COMMAND_INDEX.number (fields a);
  related_command_name = optional_text_fits levels types.Error error.RELATED_COMMAND_NAME.number a fine refl;
  related_command_type = optional_u32_fits error.RELATED_COMMAND_TYPE.number (fields a);
  next_retry_delay = optional_u64_fits error.NEXT_RETRY_DELAY.number a are_bytes;
  behavior = u32_fits error.BEHAVIOR.number (fields a);
}

pub propose_run_completion_ack_fits : ReadFits types.ProposeRunCompletionAck propose_run_completion_ack_of ProposeRunCompletionAckFits
propose_run_completion_ack_fits levels a fine = record {
  level = level_left levels types.ProposeRunCompletionAck a fine;
  completion_id = u32_fits propose_run_completion_ack.COMPLETION_ID.number (fields a);
}

propose_run_completion_result_fits : (levels : ℕ) (a : List ℕ) → IsFine levels types.ProposeRunCompletion a → ChoiceFits proposal_choice (levels - 1) (chosen proposal_choice levels (fields a))
propose_run_completion_result_fits levels a fine =
    first_fits (λ x. run_results.Value x) (ChoiceFits proposal_choice (levels - 1)) _ _ (any_fits (optional_text propose_run_completion.VALUE.number (run propose_run_completion.RESULT (fields a)))) (
    last_fits (λ x. run_results.Failure x) (ChoiceFits proposal_choice (levels - 1)) _ (chosen_record_fits levels types.ProposeRunCompletion propose_run_completion.RESULT propose_run_completion.FAILURE.number a fine refl types.Failure refl failure_of FailureFits failure_fits) tt)

pub propose_run_completion_fits : ReadFits types.ProposeRunCompletion propose_run_completion_of ProposeRunCompletionFits
propose_run_completion_fits levels a fine = record {
  level = level_left levels types.ProposeRunCompletion a fine;
  result_completion_id = u32_fits propose_run_completion.RESULT_COMPLETION_ID.number (fields a);
  result = propose_run_completion_result_fits levels a fine;
}

pub get_state_ephemeral_command_fits : ReadFits types.GetStateEphemeralCommand get_state_ephemeral_command_of GetStateEphemeralCommandFits
get_state_ephemeral_command_fits levels a fine = record {
  level = level_left levels types.GetStateEphemeralCommand a fine;
  ephemeral_completion_id = u32_fits get_state_ephemeral_command.EPHEMERAL_COMPLETION_ID.number (fields a);
}

get_state_ephemeral_notification_result_fits : (levels : ℕ) (a : List ℕ) → IsFine levels types.GetStateEphemeralNotification a → ChoiceFits ephemeral_choice (levels - 1) (chosen ephemeral_choice levels (fields a))
get_state_ephemeral_notification_result_fits levels a fine =
    first_fits (λ x. ephemeral_results.Void x) (ChoiceFits ephemeral_choice (levels - 1)) _ _ (chosen_record_fits levels types.GetStateEphemeralNotification get_state_ephemeral_notification.RESULT get_state_ephemeral_notification.VOID.number a fine refl types.Void refl void_of VoidFits void_fits) (
    last_fits (λ x. ephemeral_results.Value x) (ChoiceFits ephemeral_choice (levels - 1)) _ (chosen_record_fits levels types.GetStateEphemeralNotification get_state_ephemeral_notification.RESULT get_state_ephemeral_notification.VALUE.number a fine refl types.Value refl value_of ValueFits value_fits) tt)

pub get_state_ephemeral_notification_fits : ReadFits types.GetStateEphemeralNotification get_state_ephemeral_notification_of GetStateEphemeralNotificationFits
get_state_ephemeral_notification_fits levels a fine = record {
  level = level_left levels types.GetStateEphemeralNotification a fine;
  ephemeral_completion_id = u32_fits get_state_ephemeral_notification.EPHEMERAL_COMPLETION_ID.number (fields a);
  result = get_state_ephemeral_notification_result_fits levels a fine;
}

notification_id_fits : (levels : ℕ) (a : List ℕ) → IsFine levels types.Notification a → NotificationMessageIdFits (levels - 1) (notification_id_of levels (fields a))
notification_id_fits levels a fine =
    first_fits (λ x. ids.CompletionId x) (NotificationMessageIdFits (levels - 1)) _ _ (optional_u32_fits notification.COMPLETION_ID.number (run notification.ID (fields a))) (
    first_fits (λ x. ids.SignalId x) (NotificationMessageIdFits (levels - 1)) _ _ (optional_u32_fits notification.SIGNAL_ID.number (run notification.ID (fields a))) (
    last_fits (λ x. ids.SignalName x) (NotificationMessageIdFits (levels - 1)) _ (chosen_text_fits levels types.Notification notification.SIGNAL_NAME.number a fine refl notification.ID refl) tt))

notification_result_fits : (levels : ℕ) (a : List ℕ) → IsFine levels types.Notification a → NotificationMessageResultFits (levels - 1) (notification_result_of levels (fields a))
notification_result_fits levels a fine =
    first_fits (λ x. notification_results.Void x) (NotificationMessageResultFits (levels - 1)) _ _ (chosen_record_fits levels types.Notification notification.RESULT notification.VOID.number a fine refl types.Void refl void_of VoidFits void_fits) (
    first_fits (λ x. notification_results.Value x) (NotificationMessageResultFits (levels - 1)) _ _ (chosen_record_fits levels types.Notification notification.RESULT notification.VALUE.number a fine refl types.Value refl value_of ValueFits value_fits) (
    first_fits (λ x. notification_results.Failure x) (NotificationMessageResultFits (levels - 1)) _ _ (chosen_record_fits levels types.Notification notification.RESULT notification.FAILURE.number a fine refl types.Failure refl failure_of FailureFits failure_fits) (
    first_fits (λ x. notification_results.InvocationId x) (NotificationMessageResultFits (levels - 1)) _ _ (chosen_text_fits levels types.Notification notification.INVOCATION_ID.number a fine refl notification.RESULT refl) (
    last_fits (λ x. notification_results.StateKeys x) (NotificationMessageResultFits (levels - 1)) _ (chosen_record_fits levels types.Notification notification.RESULT notification.STATE_KEYS.number a fine refl types.StateKeys refl state_keys_of StateKeysFits state_keys_fits) tt))))

pub notification_fits : ReadFits types.Notification notification_of NotificationFits
notification_fits levels a fine = record {
  level = level_left levels types.Notification a fine;
  id = notification_id_fits levels a fine;
  result = notification_result_fits levels a fine;
}
