-- Of the records that others hold, the first and last frames, the control frames and the notifications: payloads that stand for one value
-- lead to one value with the same bytes behind them.
use Rattle.std.proofs.Common.{ap}
use Rattle.std.specs.Prelude.{refl, ℕ, ◌-◌}
use Rattle.protocol_wire.proofs.Joins.{bool_joins, numbers_join, optional_text_joins, records_join, text_joins, texts_join, u32_joins, u64_joins, optional_u32_joins, optional_u64_joins}
use Rattle.protocol_wire.specs.Fields.{fields}
use Rattle.protocol_records.specs.AwaitingOn.{awaiting_on_of}
use Rattle.protocol_records.specs.End.{end_message_of}
use Rattle.protocol_records.specs.Failure.{failure_of}
use Rattle.protocol_records.specs.FailureMetadata.{failure_metadata_of}
use Rattle.protocol_records.specs.Future.{future_of}
use Rattle.protocol_records.specs.Header.{header_of}
use Rattle.protocol_records.specs.InputCommand.{input_command_of}
use Rattle.protocol_records.specs.OutputCommand.{output_choice, output_command_of}
use Rattle.protocol_records.specs.SleepCommand.{sleep_command_of}
use Rattle.protocol_records.specs.Start.{start_message_of}
use Rattle.protocol_records.specs.StateEntry.{state_entry_of}
use Rattle.protocol_records.specs.StateKeys.{state_keys_of}
use Rattle.protocol_records.specs.Suspension.{suspension_of}
use Rattle.protocol_records.specs.SuspensionV6.{suspension_v6_of}
use Rattle.protocol_records.specs.Value.{value_of}
use Rattle.protocol_records.specs.Void.{void_of}
use Rattle.protocol_records.specs.declared.awaiting_on.AwaitingOnMessage.{AwaitingOnMessage}
use Rattle.protocol_records.specs.declared.failure.Failure.{Failure}
use Rattle.protocol_records.specs.declared.failure.FailureMetadata.{FailureMetadata}
use Rattle.protocol_records.specs.declared.header.Header.{Header}
use Rattle.protocol_records.specs.declared.input_command.InputCommandMessage.{InputCommandMessage}
use Rattle.protocol_records.specs.declared.output_command.OutputCommandMessage.{OutputCommandMessage}
use Rattle.protocol_records.specs.declared.output_command.OutputCommandResult.{OutputCommandResult}
use Rattle.protocol_records.specs.declared.sleep_command.SleepCommandMessage.{SleepCommandMessage}
use Rattle.protocol_records.specs.declared.start.StartMessage.{StartMessage}
use Rattle.protocol_records.specs.declared.start.StateEntry.{StateEntry}
use Rattle.protocol_records.specs.declared.state_keys.StateKeys.{StateKeys}
use Rattle.protocol_records.specs.declared.suspension.SuspensionMessage.{SuspensionMessage}
use Rattle.protocol_records.specs.declared.suspension_v6.SuspensionMessageV6.{SuspensionMessageV6}
use Rattle.protocol_records.specs.declared.value.Value.{Value}
use Rattle.protocol_laws.specs.Choices.{Choice, Join, choice_joins, either, held_joins, joined, only, record_variant, bytes_variant, text_variant, u32_variant}
use Rattle.protocol_laws.specs.JoinsFuture.{future_joins}
use Rattle.protocol_table.specs.declared.table.RecordType.TheVariants as types
use Rattle.protocol_table.specs.declared.table.value.TheConstants as value
use Rattle.protocol_table.specs.declared.table.failure_metadata.TheConstants as failure_metadata
use Rattle.protocol_table.specs.declared.table.failure.TheConstants as failure
use Rattle.protocol_table.specs.declared.table.header.TheConstants as header
use Rattle.protocol_table.specs.declared.table.state_entry.TheConstants as state_entry
use Rattle.protocol_table.specs.declared.table.state_keys.TheConstants as state_keys
use Rattle.protocol_table.specs.declared.table.start.TheConstants as start
use Rattle.protocol_table.specs.declared.table.suspension_v6.TheConstants as suspension_v6
use Rattle.protocol_table.specs.declared.table.input_command.TheConstants as input_command
use Rattle.protocol_table.specs.declared.table.output_command.TheConstants as output_command
use Rattle.protocol_table.specs.declared.table.sleep_command.TheConstants as sleep_command
use Rattle.protocol_table.specs.declared.table.suspension.TheConstants as suspension
use Rattle.protocol_table.specs.declared.table.awaiting_on.TheConstants as awaiting_on
use Rattle.protocol_records.specs.declared.output_command.OutputCommandResult.TheVariants as output_results
use Rattle.protocol_controls.specs.Error.{error_of}
use Rattle.protocol_controls.specs.GetStateEphemeralCommand.{get_state_ephemeral_command_of}
use Rattle.protocol_controls.specs.GetStateEphemeralNotification.{get_state_ephemeral_notification_of}
use Rattle.protocol_controls.specs.Notification.{notification_of, id_in, result_in}
use Rattle.protocol_controls.specs.ProposeRunCompletion.{propose_run_completion_of}
use Rattle.protocol_controls.specs.ProposeRunCompletionAck.{propose_run_completion_ack_of}
use Rattle.protocol_controls.specs.declared.error.ErrorMessage.{ErrorMessage}
use Rattle.protocol_controls.specs.declared.get_state_ephemeral_command.GetStateEphemeralCommandMessage.{GetStateEphemeralCommandMessage}
use Rattle.protocol_controls.specs.declared.get_state_ephemeral_notification.GetStateEphemeralNotificationMessage.{GetStateEphemeralNotificationMessage}
use Rattle.protocol_controls.specs.declared.get_state_ephemeral_notification.GetStateEphemeralNotificationResult.{GetStateEphemeralNotificationResult}
use Rattle.protocol_controls.specs.declared.notification.NotificationMessage.{NotificationMessage}
use Rattle.protocol_controls.specs.declared.notification.NotificationMessageId.{NotificationMessageId}
use Rattle.protocol_controls.specs.declared.notification.NotificationMessageResult.{NotificationMessageResult}
use Rattle.protocol_controls.specs.declared.propose_run_completion.ProposeRunCompletionMessage.{ProposeRunCompletionMessage}
use Rattle.protocol_controls.specs.declared.propose_run_completion.ProposeRunCompletionResult.{ProposeRunCompletionResult}
use Rattle.protocol_controls.specs.declared.propose_run_completion_ack.ProposeRunCompletionAckMessage.{ProposeRunCompletionAckMessage}
use Rattle.protocol_table.specs.declared.table.error.TheConstants as error
use Rattle.protocol_table.specs.declared.table.propose_run_completion_ack.TheConstants as propose_run_completion_ack
use Rattle.protocol_table.specs.declared.table.propose_run_completion.TheConstants as propose_run_completion
use Rattle.protocol_table.specs.declared.table.get_state_ephemeral_command.TheConstants as get_state_ephemeral_command
use Rattle.protocol_table.specs.declared.table.get_state_ephemeral_notification.TheConstants as get_state_ephemeral_notification
use Rattle.protocol_table.specs.declared.table.notification.TheConstants as notification
use Rattle.protocol_controls.specs.declared.get_state_ephemeral_notification.GetStateEphemeralNotificationResult.TheVariants as ephemeral_results
use Rattle.protocol_controls.specs.declared.propose_run_completion.ProposeRunCompletionResult.TheVariants as run_results
use Rattle.protocol_controls.specs.declared.notification.NotificationMessageId.TheVariants as ids
use Rattle.protocol_controls.specs.declared.notification.NotificationMessageResult.TheVariants as notification_results
use Rattle.protocol_records.specs.Choice.{chosen_in}
use Rattle.protocol_controls.specs.Choices.{ephemeral_choice, proposal_choice}

pub void_joins : Join types.Void void_of
void_joins levels a b c p q h = refl

pub value_joins : Join types.Value value_of
value_joins levels a b c p q h = joined types.Value (value_of levels) levels a b c p q (λ i. record {
  content = text_joins value.CONTENT.number (fields a) (fields b) (fields c) (ap (λ (r : Value). r.content) h) i;
})

pub failure_metadata_joins : Join types.FailureMetadata failure_metadata_of
failure_metadata_joins levels a b c p q h = joined types.FailureMetadata (failure_metadata_of levels) levels a b c p q (λ i. record {
  key = text_joins failure_metadata.KEY.number (fields a) (fields b) (fields c) (ap (λ (r : FailureMetadata). r.key) h) i;
  value = text_joins failure_metadata.VALUE.number (fields a) (fields b) (fields c) (ap (λ (r : FailureMetadata). r.value) h) i;
})

pub failure_joins : Join types.Failure failure_of
failure_joins levels a b c p q h = joined types.Failure (failure_of levels) levels a b c p q (λ i. record {
  code = u32_joins failure.CODE.number (fields a) (fields b) (fields c) (ap (λ (r : Failure). r.code) h) i;
  message = text_joins failure.MESSAGE.number (fields a) (fields b) (fields c) (ap (λ (r : Failure). r.message) h) i;
  metadata = records_join (failure_metadata_of (levels - 1)) failure.METADATA.number (fields a) (fields b) (fields c) (ap (λ (r : Failure). r.metadata) h) i;
})

pub header_joins : Join types.Header header_of
header_joins levels a b c p q h = joined types.Header (header_of levels) levels a b c p q (λ i. record {
  key = text_joins header.KEY.number (fields a) (fields b) (fields c) (ap (λ (r : Header). r.key) h) i;
  value = text_joins header.VALUE.number (fields a) (fields b) (fields c) (ap (λ (r : Header). r.value) h) i;
})

pub state_entry_joins : Join types.StateEntry state_entry_of
state_entry_joins levels a b c p q h = joined types.StateEntry (state_entry_of levels) levels a b c p q (λ i. record {
  key = text_joins state_entry.KEY.number (fields a) (fields b) (fields c) (ap (λ (r : StateEntry). r.key) h) i;
  value = text_joins state_entry.VALUE.number (fields a) (fields b) (fields c) (ap (λ (r : StateEntry). r.value) h) i;
})

pub state_keys_joins : Join types.StateKeys state_keys_of
state_keys_joins levels a b c p q h = joined types.StateKeys (state_keys_of levels) levels a b c p q (λ i. record {
  keys = texts_join state_keys.KEYS.number (fields a) (fields b) (fields c) (ap (λ (r : StateKeys). r.keys) h) i;
})

pub start_joins : Join types.Start start_message_of
start_joins levels a b c p q h = joined types.Start (start_message_of levels) levels a b c p q (λ i. record {
  id = text_joins start.ID.number (fields a) (fields b) (fields c) (ap (λ (r : StartMessage). r.id) h) i;
  debug_id = text_joins start.DEBUG_ID.number (fields a) (fields b) (fields c) (ap (λ (r : StartMessage). r.debug_id) h) i;
  known_entries = u32_joins start.KNOWN_ENTRIES.number (fields a) (fields b) (fields c) (ap (λ (r : StartMessage). r.known_entries) h) i;
  state_map = records_join (state_entry_of (levels - 1)) start.STATE_MAP.number (fields a) (fields b) (fields c) (ap (λ (r : StartMessage). r.state_map) h) i;
  partial_state = bool_joins start.PARTIAL_STATE.number (fields a) (fields b) (fields c) (ap (λ (r : StartMessage). r.partial_state) h) i;
  key = text_joins start.KEY.number (fields a) (fields b) (fields c) (ap (λ (r : StartMessage). r.key) h) i;
  retry_count_since_last_stored_entry = u32_joins start.RETRY_COUNT_SINCE_LAST_STORED_ENTRY.number (fields a) (fields b) (fields c) (ap (λ (r : StartMessage). r.retry_count_since_last_stored_entry) h) i;
  duration_since_last_stored_entry = u64_joins start.DURATION_SINCE_LAST_STORED_ENTRY.number (fields a) (fields b) (fields c) (ap (λ (r : StartMessage). r.duration_since_last_stored_entry) h) i;
  random_seed = u64_joins start.RANDOM_SEED.number (fields a) (fields b) (fields c) (ap (λ (r : StartMessage). r.random_seed) h) i;
  scope = optional_text_joins start.SCOPE.number (fields a) (fields b) (fields c) (ap (λ (r : StartMessage). r.scope) h) i;
  limit_key = optional_text_joins start.LIMIT_KEY.number (fields a) (fields b) (fields c) (ap (λ (r : StartMessage). r.limit_key) h) i;
  idempotency_key = optional_text_joins start.IDEMPOTENCY_KEY.number (fields a) (fields b) (fields c) (ap (λ (r : StartMessage). r.idempotency_key) h) i;
})

pub suspension_v6_joins : Join types.SuspensionV6 suspension_v6_of
suspension_v6_joins levels a b c p q h = joined types.SuspensionV6 (suspension_v6_of levels) levels a b c p q (λ i. record {
  waiting_completions = numbers_join suspension_v6.WAITING_COMPLETIONS.number (fields a) (fields b) (fields c) (ap (λ (r : SuspensionMessageV6). r.waiting_completions) h) i;
  waiting_signals = numbers_join suspension_v6.WAITING_SIGNALS.number (fields a) (fields b) (fields c) (ap (λ (r : SuspensionMessageV6). r.waiting_signals) h) i;
  waiting_named_signals = texts_join suspension_v6.WAITING_NAMED_SIGNALS.number (fields a) (fields b) (fields c) (ap (λ (r : SuspensionMessageV6). r.waiting_named_signals) h) i;
})

pub end_joins : Join types.End end_message_of
end_joins levels a b c p q h = refl

pub input_command_joins : Join types.InputCommand input_command_of
input_command_joins levels a b c p q h = joined types.InputCommand (input_command_of levels) levels a b c p q (λ i. record {
  headers = records_join (header_of (levels - 1)) input_command.HEADERS.number (fields a) (fields b) (fields c) (ap (λ (r : InputCommandMessage). r.headers) h) i;
  name = text_joins input_command.NAME.number (fields a) (fields b) (fields c) (ap (λ (r : InputCommandMessage). r.name) h) i;
  value = held_joins levels types.InputCommand types.Value value_of value_joins input_command.VALUE.number a b (fields c) p q refl (ap (λ (r : InputCommandMessage). r.value) h) i;
})

abbrev output_command_result_number : OutputCommandResult → ℕ
output_command_result_number (output_results.Value x) = output_command.VALUE.number
output_command_result_number (output_results.Failure x) = output_command.FAILURE.number

output_command_result_choice : (levels : ℕ) → Choice levels types.OutputCommand output_command.RESULT output_command_result_number output_command.RESULT (chosen_in output_choice levels)
output_command_result_choice levels =
    either output_command_result_number (record_variant levels types.OutputCommand output_command.RESULT output_command.VALUE.number refl types.Value value_of value_joins refl) (λ x. output_results.Value x) (λ x. refl) (λ x y h. cc) (
    only output_command_result_number (record_variant levels types.OutputCommand output_command.RESULT output_command.FAILURE.number refl types.Failure failure_of failure_joins refl) (λ x. output_results.Failure x) (λ x. refl) (λ x y h. cc)) refl

pub output_command_joins : Join types.OutputCommand output_command_of
output_command_joins levels a b c p q h = joined types.OutputCommand (output_command_of levels) levels a b c p q (λ i. record {
  result = choice_joins (output_command_result_choice levels) a b c p q (ap (λ (r : OutputCommandMessage). r.result) h) i;
  name = text_joins output_command.NAME.number (fields a) (fields b) (fields c) (ap (λ (r : OutputCommandMessage). r.name) h) i;
})

pub sleep_command_joins : Join types.SleepCommand sleep_command_of
sleep_command_joins levels a b c p q h = joined types.SleepCommand (sleep_command_of levels) levels a b c p q (λ i. record {
  wake_up_time = u64_joins sleep_command.WAKE_UP_TIME.number (fields a) (fields b) (fields c) (ap (λ (r : SleepCommandMessage). r.wake_up_time) h) i;
  result_completion_id = u32_joins sleep_command.RESULT_COMPLETION_ID.number (fields a) (fields b) (fields c) (ap (λ (r : SleepCommandMessage). r.result_completion_id) h) i;
  name = text_joins sleep_command.NAME.number (fields a) (fields b) (fields c) (ap (λ (r : SleepCommandMessage). r.name) h) i;
})

pub suspension_joins : Join types.Suspension suspension_of
suspension_joins levels a b c p q h = joined types.Suspension (suspension_of levels) levels a b c p q (λ i. record {
  awaiting_on = held_joins levels types.Suspension types.Future future_of future_joins suspension.AWAITING_ON.number a b (fields c) p q refl (ap (λ (r : SuspensionMessage). r.awaiting_on) h) i;
})

pub awaiting_on_joins : Join types.AwaitingOn awaiting_on_of
awaiting_on_joins levels a b c p q h = joined types.AwaitingOn (awaiting_on_of levels) levels a b c p q (λ i. record {
  awaiting_on = held_joins levels types.AwaitingOn types.Future future_of future_joins awaiting_on.AWAITING_ON.number a b (fields c) p q refl (ap (λ (r : AwaitingOnMessage). r.awaiting_on) h) i;
  executing_side_effects = bool_joins awaiting_on.EXECUTING_SIDE_EFFECTS.number (fields a) (fields b) (fields c) (ap (λ (r : AwaitingOnMessage). r.executing_side_effects) h) i;
})

pub error_joins : Join types.Error error_of
error_joins levels a b c p q h = joined types.Error (error_of levels) levels a b c p q (λ i. record {
  code = u32_joins error.CODE.number (fields a) (fields b) (fields c) (ap (λ (r : ErrorMessage). r.code) h) i;
  message = text_joins error.MESSAGE.number (fields a) (fields b) (fields c) (ap (λ (r : ErrorMessage). r.message) h) i;
  related_command_index = optional_u32_joins error.RELATED_COMMAND_INDEX.number (fields a) (fields b) (fields c) (ap (λ (r : ErrorMessage). r.related_command_index) h) i;
  related_command_name = optional_text_joins error.RELATED_COMMAND_NAME.number (fields a) (fields b) (fields c) (ap (λ (r : ErrorMessage). r.related_command_name) h) i;
  related_command_type = optional_u32_joins error.RELATED_COMMAND_TYPE.number (fields a) (fields b) (fields c) (ap (λ (r : ErrorMessage). r.related_command_type) h) i;
  next_retry_delay = optional_u64_joins error.NEXT_RETRY_DELAY.number (fields a) (fields b) (fields c) (ap (λ (r : ErrorMessage). r.next_retry_delay) h) i;
  behavior = u32_joins error.BEHAVIOR.number (fields a) (fields b) (fields c) (ap (λ (r : ErrorMessage). r.behavior) h) i;
})

pub propose_run_completion_ack_joins : Join types.ProposeRunCompletionAck propose_run_completion_ack_of
propose_run_completion_ack_joins levels a b c p q h = joined types.ProposeRunCompletionAck (propose_run_completion_ack_of levels) levels a b c p q (λ i. record {
  completion_id = u32_joins propose_run_completion_ack.COMPLETION_ID.number (fields a) (fields b) (fields c) (ap (λ (r : ProposeRunCompletionAckMessage). r.completion_id) h) i;
})

abbrev propose_run_completion_result_number : ProposeRunCompletionResult → ℕ
propose_run_completion_result_number (run_results.Value x) = propose_run_completion.VALUE.number
propose_run_completion_result_number (run_results.Failure x) = propose_run_completion.FAILURE.number

propose_run_completion_result_choice : (levels : ℕ) → Choice levels types.ProposeRunCompletion propose_run_completion.RESULT propose_run_completion_result_number propose_run_completion.RESULT (chosen_in proposal_choice levels)
propose_run_completion_result_choice levels =
    either propose_run_completion_result_number (bytes_variant levels types.ProposeRunCompletion propose_run_completion.RESULT propose_run_completion.VALUE.number refl refl) (λ x. run_results.Value x) (λ x. refl) (λ x y h. cc) (
    only propose_run_completion_result_number (record_variant levels types.ProposeRunCompletion propose_run_completion.RESULT propose_run_completion.FAILURE.number refl types.Failure failure_of failure_joins refl) (λ x. run_results.Failure x) (λ x. refl) (λ x y h. cc)) refl

pub propose_run_completion_joins : Join types.ProposeRunCompletion propose_run_completion_of
propose_run_completion_joins levels a b c p q h = joined types.ProposeRunCompletion (propose_run_completion_of levels) levels a b c p q (λ i. record {
  result_completion_id = u32_joins propose_run_completion.RESULT_COMPLETION_ID.number (fields a) (fields b) (fields c) (ap (λ (r : ProposeRunCompletionMessage). r.result_completion_id) h) i;
  result = choice_joins (propose_run_completion_result_choice levels) a b c p q (ap (λ (r : ProposeRunCompletionMessage). r.result) h) i;
})

pub get_state_ephemeral_command_joins : Join types.GetStateEphemeralCommand get_state_ephemeral_command_of
get_state_ephemeral_command_joins levels a b c p q h = joined types.GetStateEphemeralCommand (get_state_ephemeral_command_of levels) levels a b c p q (λ i. record {
  ephemeral_completion_id = u32_joins get_state_ephemeral_command.EPHEMERAL_COMPLETION_ID.number (fields a) (fields b) (fields c) (ap (λ (r : GetStateEphemeralCommandMessage). r.ephemeral_completion_id) h) i;
  key = text_joins get_state_ephemeral_command.KEY.number (fields a) (fields b) (fields c) (ap (λ (r : GetStateEphemeralCommandMessage). r.key) h) i;
})

abbrev get_state_ephemeral_notification_result_number : GetStateEphemeralNotificationResult → ℕ
get_state_ephemeral_notification_result_number (ephemeral_results.Void x) = get_state_ephemeral_notification.VOID.number
get_state_ephemeral_notification_result_number (ephemeral_results.Value x) = get_state_ephemeral_notification.VALUE.number

get_state_ephemeral_notification_result_choice : (levels : ℕ) → Choice levels types.GetStateEphemeralNotification get_state_ephemeral_notification.RESULT get_state_ephemeral_notification_result_number get_state_ephemeral_notification.RESULT (chosen_in ephemeral_choice levels)
get_state_ephemeral_notification_result_choice levels =
    either get_state_ephemeral_notification_result_number (record_variant levels types.GetStateEphemeralNotification get_state_ephemeral_notification.RESULT get_state_ephemeral_notification.VOID.number refl types.Void void_of void_joins refl) (λ x. ephemeral_results.Void x) (λ x. refl) (λ x y h. cc) (
    only get_state_ephemeral_notification_result_number (record_variant levels types.GetStateEphemeralNotification get_state_ephemeral_notification.RESULT get_state_ephemeral_notification.VALUE.number refl types.Value value_of value_joins refl) (λ x. ephemeral_results.Value x) (λ x. refl) (λ x y h. cc)) refl

pub get_state_ephemeral_notification_joins : Join types.GetStateEphemeralNotification get_state_ephemeral_notification_of
get_state_ephemeral_notification_joins levels a b c p q h = joined types.GetStateEphemeralNotification (get_state_ephemeral_notification_of levels) levels a b c p q (λ i. record {
  ephemeral_completion_id = u32_joins get_state_ephemeral_notification.EPHEMERAL_COMPLETION_ID.number (fields a) (fields b) (fields c) (ap (λ (r : GetStateEphemeralNotificationMessage). r.ephemeral_completion_id) h) i;
  result = choice_joins (get_state_ephemeral_notification_result_choice levels) a b c p q (ap (λ (r : GetStateEphemeralNotificationMessage). r.result) h) i;
})

abbrev notification_id_number : NotificationMessageId → ℕ
notification_id_number (ids.CompletionId x) = notification.COMPLETION_ID.number
notification_id_number (ids.SignalId x) = notification.SIGNAL_ID.number
notification_id_number (ids.SignalName x) = notification.SIGNAL_NAME.number

notification_id_choice : (levels : ℕ) → Choice levels types.Notification notification.ID notification_id_number notification.ID (id_in levels)
notification_id_choice levels =
    either notification_id_number (u32_variant levels types.Notification notification.ID notification.COMPLETION_ID.number refl refl) (λ x. ids.CompletionId x) (λ x. refl) (λ x y h. cc) (
    either notification_id_number (u32_variant levels types.Notification notification.ID notification.SIGNAL_ID.number refl refl) (λ x. ids.SignalId x) (λ x. refl) (λ x y h. cc) (
    only notification_id_number (text_variant levels types.Notification notification.ID notification.SIGNAL_NAME.number refl refl) (λ x. ids.SignalName x) (λ x. refl) (λ x y h. cc)) refl) refl

abbrev notification_result_number : NotificationMessageResult → ℕ
notification_result_number (notification_results.Void x) = notification.VOID.number
notification_result_number (notification_results.Value x) = notification.VALUE.number
notification_result_number (notification_results.Failure x) = notification.FAILURE.number
notification_result_number (notification_results.InvocationId x) = notification.INVOCATION_ID.number
notification_result_number (notification_results.StateKeys x) = notification.STATE_KEYS.number

notification_result_choice : (levels : ℕ) → Choice levels types.Notification notification.RESULT notification_result_number notification.RESULT (result_in levels)
notification_result_choice levels =
    either notification_result_number (record_variant levels types.Notification notification.RESULT notification.VOID.number refl types.Void void_of void_joins refl) (λ x. notification_results.Void x) (λ x. refl) (λ x y h. cc) (
    either notification_result_number (record_variant levels types.Notification notification.RESULT notification.VALUE.number refl types.Value value_of value_joins refl) (λ x. notification_results.Value x) (λ x. refl) (λ x y h. cc) (
    either notification_result_number (record_variant levels types.Notification notification.RESULT notification.FAILURE.number refl types.Failure failure_of failure_joins refl) (λ x. notification_results.Failure x) (λ x. refl) (λ x y h. cc) (
    either notification_result_number (text_variant levels types.Notification notification.RESULT notification.INVOCATION_ID.number refl refl) (λ x. notification_results.InvocationId x) (λ x. refl) (λ x y h. cc) (
    only notification_result_number (record_variant levels types.Notification notification.RESULT notification.STATE_KEYS.number refl types.StateKeys state_keys_of state_keys_joins refl) (λ x. notification_results.StateKeys x) (λ x. refl) (λ x y h. cc)) refl) refl) refl) refl

pub notification_joins : Join types.Notification notification_of
notification_joins levels a b c p q h = joined types.Notification (notification_of levels) levels a b c p q (λ i. record {
  id = choice_joins (notification_id_choice levels) a b c p q (ap (λ (r : NotificationMessage). r.id) h) i;
  result = choice_joins (notification_result_choice levels) a b c p q (ap (λ (r : NotificationMessage). r.result) h) i;
})
