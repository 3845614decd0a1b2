-- The canonical payload of each control frame is read again, to the same value.
use Rattle.std.specs.Prelude.{◌-◌, refl, ◌≡◌, ℕ, ◌<◌, ◌^◌, List, [], ◌∷◌, Option, Some, None, IfSome, IsUtf8, option_map}
use Rattle.std.specs.List.{AllByRecursion}
use Rattle.std.proofs.Common.{sym, ap, ◌∙◌}
use Rattle.protocol_wire.specs.Check.{payload_fault}
use Rattle.protocol_wire.specs.Selection.{last_run, first_present, last_number, last_bytes, texts}
use Rattle.protocol_wire.specs.Parts.{bytes_if, optional_bytes, optional_number, payload_of}
use Rattle.protocol_table.specs.Table.{descriptors_of}
use Rattle.protocol_table.specs.declared.table.RecordType.TheVariants as types
use Rattle.protocol_table.specs.declared.table.error.TheConstants as error
use Rattle.protocol_table.specs.declared.table.get_state_ephemeral_command.TheConstants as get_state_ephemeral_command
use Rattle.protocol_table.specs.declared.table.propose_run_completion_ack.TheConstants as propose_run_completion_ack
use Rattle.protocol_table.specs.declared.table.notification.TheConstants as notification
use Rattle.protocol_table.specs.declared.table.get_state_ephemeral_notification.TheConstants as get_state_ephemeral_notification
use Rattle.protocol_table.specs.declared.table.propose_run_completion.TheConstants as propose_run_completion
use Rattle.protocol_wire.proofs.Holds.{u32_holds, enum_holds, text_holds, optional_u32_holds, optional_u64_holds, optional_text_holds, bytes_holds, Reads, read_back, LengthFits, optional_record_holds, lengths_fit, optional_bytes_holds}
use Rattle.protocol_wire.proofs.Back.{u32_back, enum_back, text_back, optional_u32_back, optional_u64_back, optional_text_back, optional_record_back, held_among, run-fields_of}
use Rattle.protocol_records.specs.Failure.{failure_of, failure_parts}
use Rattle.protocol_records.specs.declared.failure.Failure.{Failure}
use Rattle.protocol_records.specs.ReadBack.{failure_reads, state_keys_reads, value_reads, void_reads}
use Rattle.protocol_records.specs.StateKeys.{state_keys_of, state_keys_parts}
use Rattle.protocol_records.specs.declared.state_keys.StateKeys.{StateKeys}
use Rattle.protocol_records.specs.Value.{value_of, value_parts}
use Rattle.protocol_records.specs.declared.value.Value.{Value}
use Rattle.protocol_records.specs.Void.{void_of, void_parts}
use Rattle.protocol_records.specs.declared.void.Void.{Void}
use Rattle.protocol_controls.specs.Error.{error_of, error_parts, ErrorFits}
use Rattle.protocol_controls.specs.GetStateEphemeralCommand.{get_state_ephemeral_command_of, get_state_ephemeral_command_parts, GetStateEphemeralCommandFits}
use Rattle.protocol_controls.specs.ProposeRunCompletionAck.{propose_run_completion_ack_of, propose_run_completion_ack_parts, ProposeRunCompletionAckFits}
use Rattle.protocol_controls.specs.declared.notification.NotificationMessageId.{NotificationMessageId}
use Rattle.protocol_controls.specs.declared.notification.NotificationMessageId.TheVariants as ids
use Rattle.protocol_controls.specs.declared.notification.NotificationMessageResult.{NotificationMessageResult}
use Rattle.protocol_controls.specs.declared.notification.NotificationMessageResult.TheVariants as results
use Rattle.protocol_controls.specs.Notification.{notification_of, notification_parts, NotificationFits, id_in, id_parts, NotificationMessageIdFits, id_completion_id, id_signal_id, id_signal_name, result_in, result_parts, NotificationMessageResultFits, result_void, result_value, result_failure, result_invocation_id, result_state_keys}
use Rattle.protocol_controls.specs.declared.get_state_ephemeral_notification.GetStateEphemeralNotificationResult.{GetStateEphemeralNotificationResult}
use Rattle.protocol_controls.specs.declared.get_state_ephemeral_notification.GetStateEphemeralNotificationResult.TheVariants as ephemeral_results
use Rattle.protocol_controls.specs.GetStateEphemeralNotification.{get_state_ephemeral_notification_of, get_state_ephemeral_notification_parts, GetStateEphemeralNotificationFits}
use Rattle.protocol_controls.specs.declared.propose_run_completion.ProposeRunCompletionResult.{ProposeRunCompletionResult}
use Rattle.protocol_controls.specs.declared.propose_run_completion.ProposeRunCompletionResult.TheVariants as proposal_results
use Rattle.protocol_controls.specs.ProposeRunCompletion.{propose_run_completion_of, propose_run_completion_parts, ProposeRunCompletionFits}
use Rattle.protocol_records.specs.Choice.{ChoiceFits, choice_parts, chosen_in, first_spelled, second_spelled}
use Rattle.protocol_records.specs.ChoiceBack.{first_sound, second_sound}
use Rattle.protocol_controls.specs.Choices.{ephemeral_choice, proposal_choice}

pub error_reads : Reads types.Error error_of error_parts ErrorFits
error_reads levels v h small =
    let ps = error_parts v in
    let below = payload_fault (levels - 1) in
    let table = descriptors_of types.Error in
    read_back levels types.Error error_of ps v h.level small (
      u32_holds below table error.CODE.number v.code (refl, refl) h.code,
      (
        text_holds below table error.MESSAGE.number v.message (refl, refl) h.message,
        (
          optional_u32_holds below table error.RELATED_COMMAND_INDEX.number v.related_command_index (refl, refl) h.related_command_index,
          (
            optional_text_holds below table error.RELATED_COMMAND_NAME.number v.related_command_name (refl, refl) h.related_command_name,
            (
              optional_u32_holds below table error.RELATED_COMMAND_TYPE.number v.related_command_type (refl, refl) h.related_command_type,
              (
                optional_u64_holds below table error.NEXT_RETRY_DELAY.number v.next_retry_delay (refl, refl) h.next_retry_delay,
                (
                  enum_holds below table error.BEHAVIOR.number v.behavior (refl, refl) h.behavior,
                  tt,
                ),
              ),
            ),
          ),
        ),
      ),
    ) (λ i. record {
      code = u32_back error.CODE.number v.code ps refl h.code i;
      message = text_back error.MESSAGE.number v.message ps refl i;
      related_command_index = optional_u32_back error.RELATED_COMMAND_INDEX.number v.related_command_index ps refl h.related_command_index i;
      related_command_name = optional_text_back error.RELATED_COMMAND_NAME.number v.related_command_name ps refl i;
      related_command_type = optional_u32_back error.RELATED_COMMAND_TYPE.number v.related_command_type ps refl h.related_command_type i;
      next_retry_delay = optional_u64_back error.NEXT_RETRY_DELAY.number v.next_retry_delay ps refl i;
      behavior = enum_back error.BEHAVIOR.number v.behavior ps refl h.behavior i;
    })

pub get_state_ephemeral_command_reads : Reads types.GetStateEphemeralCommand get_state_ephemeral_command_of get_state_ephemeral_command_parts GetStateEphemeralCommandFits
get_state_ephemeral_command_reads levels v h small =
    let ps = get_state_ephemeral_command_parts v in
    let below = payload_fault (levels - 1) in
    let table = descriptors_of types.GetStateEphemeralCommand in
    read_back levels types.GetStateEphemeralCommand get_state_ephemeral_command_of ps v h.level small (
      u32_holds below table get_state_ephemeral_command.EPHEMERAL_COMPLETION_ID.number v.ephemeral_completion_id (refl, refl) h.ephemeral_completion_id,
      (
        bytes_holds below table get_state_ephemeral_command.KEY.number v.key (refl, refl),
        tt,
      ),
    ) (λ i. record {
      ephemeral_completion_id = u32_back get_state_ephemeral_command.EPHEMERAL_COMPLETION_ID.number v.ephemeral_completion_id ps refl h.ephemeral_completion_id i;
      key = text_back get_state_ephemeral_command.KEY.number v.key ps refl i;
    })

pub propose_run_completion_ack_reads : Reads types.ProposeRunCompletionAck propose_run_completion_ack_of propose_run_completion_ack_parts ProposeRunCompletionAckFits
propose_run_completion_ack_reads levels v h small =
    let ps = propose_run_completion_ack_parts v in
    let below = payload_fault (levels - 1) in
    let table = descriptors_of types.ProposeRunCompletionAck in
    read_back levels types.ProposeRunCompletionAck propose_run_completion_ack_of ps v h.level small (
      u32_holds below table propose_run_completion_ack.COMPLETION_ID.number v.completion_id (refl, refl) h.completion_id,
      tt,
    ) (λ i. record {
      completion_id = u32_back propose_run_completion_ack.COMPLETION_ID.number v.completion_id ps refl h.completion_id i;
    })

id_completion_id_holds : (levels : ℕ) (o : Option NotificationMessageId) → NotificationMessageIdFits levels o → IfSome (id_completion_id o) (λ n. n < 2 ^ 32)
id_completion_id_holds levels None h = tt
id_completion_id_holds levels (Some (ids.CompletionId c)) h = h
id_completion_id_holds levels (Some (ids.SignalId s)) h = tt
id_completion_id_holds levels (Some (ids.SignalName s)) h = tt

id_signal_id_holds : (levels : ℕ) (o : Option NotificationMessageId) → NotificationMessageIdFits levels o → IfSome (id_signal_id o) (λ n. n < 2 ^ 32)
id_signal_id_holds levels None h = tt
id_signal_id_holds levels (Some (ids.CompletionId c)) h = tt
id_signal_id_holds levels (Some (ids.SignalId s)) h = h
id_signal_id_holds levels (Some (ids.SignalName s)) h = tt

id_signal_name_holds : (levels : ℕ) (o : Option NotificationMessageId) → NotificationMessageIdFits levels o → IfSome (id_signal_name o) IsUtf8
id_signal_name_holds levels None h = tt
id_signal_name_holds levels (Some (ids.CompletionId c)) h = tt
id_signal_name_holds levels (Some (ids.SignalId s)) h = tt
id_signal_name_holds levels (Some (ids.SignalName s)) h = h

-- of the fields of the id alone
id_back : (levels : ℕ) (o : Option NotificationMessageId) → NotificationMessageIdFits (levels - 1) o → id_in levels (last_run (held_among notification.ID (id_parts o))) ≡ o
unfolding texts last_bytes last_number
id_back levels None h = refl
id_back levels (Some (ids.CompletionId c)) h =
    ap (λ (o : Option ℕ). first_present (option_map (λ c. ids.CompletionId c) o) None) (optional_u32_back notification.COMPLETION_ID.number (Some c) (optional_number notification.COMPLETION_ID.number (Some c) ∷ []) refl h)
id_back levels (Some (ids.SignalId s)) h =
    ap (λ (o : Option ℕ). first_present (option_map (λ s. ids.SignalId s) o) None) (optional_u32_back notification.SIGNAL_ID.number (Some s) (optional_number notification.SIGNAL_ID.number (Some s) ∷ []) refl h)
id_back levels (Some (ids.SignalName s)) h =
    ap (λ (o : Option (List ℕ)). option_map (λ s. ids.SignalName s) o) (optional_text_back notification.SIGNAL_NAME.number (Some s) (optional_bytes notification.SIGNAL_NAME.number (Some s) ∷ []) refl)

result_void_holds : (levels : ℕ) (o : Option NotificationMessageResult) → NotificationMessageResultFits levels o → AllByRecursion LengthFits (bytes_if (result_void o)) → IfSome (result_void o) (λ b. payload_fault levels types.Void b ≡ None)
result_void_holds levels None h k = tt
result_void_holds levels (Some (results.Void v)) h k = (void_reads levels v h k.0).sound
result_void_holds levels (Some (results.Value v)) h k = tt
result_void_holds levels (Some (results.Failure f)) h k = tt
result_void_holds levels (Some (results.InvocationId x)) h k = tt
result_void_holds levels (Some (results.StateKeys s)) h k = tt

result_value_holds : (levels : ℕ) (o : Option NotificationMessageResult) → NotificationMessageResultFits levels o → AllByRecursion LengthFits (bytes_if (result_value o)) → IfSome (result_value o) (λ b. payload_fault levels types.Value b ≡ None)
result_value_holds levels None h k = tt
result_value_holds levels (Some (results.Void v)) h k = tt
result_value_holds levels (Some (results.Value v)) h k = (value_reads levels v h k.0).sound
result_value_holds levels (Some (results.Failure f)) h k = tt
result_value_holds levels (Some (results.InvocationId x)) h k = tt
result_value_holds levels (Some (results.StateKeys s)) h k = tt

result_failure_holds : (levels : ℕ) (o : Option NotificationMessageResult) → NotificationMessageResultFits levels o → AllByRecursion LengthFits (bytes_if (result_failure o)) → IfSome (result_failure o) (λ b. payload_fault levels types.Failure b ≡ None)
result_failure_holds levels None h k = tt
result_failure_holds levels (Some (results.Void v)) h k = tt
result_failure_holds levels (Some (results.Value v)) h k = tt
result_failure_holds levels (Some (results.Failure f)) h k = (failure_reads levels f h k.0).sound
result_failure_holds levels (Some (results.InvocationId x)) h k = tt
result_failure_holds levels (Some (results.StateKeys s)) h k = tt

result_invocation_id_holds : (levels : ℕ) (o : Option NotificationMessageResult) → NotificationMessageResultFits levels o → IfSome (result_invocation_id o) IsUtf8
result_invocation_id_holds levels None h = tt
result_invocation_id_holds levels (Some (results.Void v)) h = tt
result_invocation_id_holds levels (Some (results.Value v)) h = tt
result_invocation_id_holds levels (Some (results.Failure f)) h = tt
result_invocation_id_holds levels (Some (results.InvocationId x)) h = h
result_invocation_id_holds levels (Some (results.StateKeys s)) h = tt

result_state_keys_holds : (levels : ℕ) (o : Option NotificationMessageResult) → NotificationMessageResultFits levels o → AllByRecursion LengthFits (bytes_if (result_state_keys o)) → IfSome (result_state_keys o) (λ b. payload_fault levels types.StateKeys b ≡ None)
result_state_keys_holds levels None h k = tt
result_state_keys_holds levels (Some (results.Void v)) h k = tt
result_state_keys_holds levels (Some (results.Value v)) h k = tt
result_state_keys_holds levels (Some (results.Failure f)) h k = tt
result_state_keys_holds levels (Some (results.InvocationId x)) h k = tt
result_state_keys_holds levels (Some (results.StateKeys s)) h k = (state_keys_reads levels s h k.0).sound

-- of the fields of the result alone
notification_result_back : (levels : ℕ) (o : Option NotificationMessageResult) → NotificationMessageResultFits (levels - 1) o → AllByRecursion LengthFits (bytes_if (result_void o)) → AllByRecursion LengthFits (bytes_if (result_value o)) → AllByRecursion LengthFits (bytes_if (result_failure o)) → AllByRecursion LengthFits (bytes_if (result_state_keys o)) → result_in levels (last_run (held_among notification.RESULT (result_parts o))) ≡ o
unfolding texts last_bytes last_number
notification_result_back levels None h k0 k1 k2 k3 = refl
notification_result_back levels (Some (results.Void v)) h k0 k1 k2 k3 =
    ap (λ (o : Option Void). first_present (option_map (λ v. results.Void v) o) None) (optional_record_back (void_of (levels - 1)) (λ r. payload_of (void_parts r)) notification.VOID.number (Some v) (optional_bytes notification.VOID.number (Some (payload_of (void_parts v))) ∷ []) refl (sym (void_reads (levels - 1) v h k0.0).value))
notification_result_back levels (Some (results.Value v)) h k0 k1 k2 k3 =
    ap (λ (o : Option Value). first_present (option_map (λ v. results.Value v) o) None) (optional_record_back (value_of (levels - 1)) (λ r. payload_of (value_parts r)) notification.VALUE.number (Some v) (optional_bytes notification.VALUE.number (Some (payload_of (value_parts v))) ∷ []) refl (sym (value_reads (levels - 1) v h k1.0).value))
notification_result_back levels (Some (results.Failure f)) h k0 k1 k2 k3 =
    ap (λ (o : Option Failure). first_present (option_map (λ f. results.Failure f) o) None) (optional_record_back (failure_of (levels - 1)) (λ r. payload_of (failure_parts r)) notification.FAILURE.number (Some f) (optional_bytes notification.FAILURE.number (Some (payload_of (failure_parts f))) ∷ []) refl (sym (failure_reads (levels - 1) f h k2.0).value))
notification_result_back levels (Some (results.InvocationId x)) h k0 k1 k2 k3 =
    ap (λ (o : Option (List ℕ)). first_present (option_map (λ x. results.InvocationId x) o) None) (optional_text_back notification.INVOCATION_ID.number (Some x) (optional_bytes notification.INVOCATION_ID.number (Some x) ∷ []) refl)
notification_result_back levels (Some (results.StateKeys s)) h k0 k1 k2 k3 =
    ap (λ (o : Option StateKeys). option_map (λ s. results.StateKeys s) o) (optional_record_back (state_keys_of (levels - 1)) (λ r. payload_of (state_keys_parts r)) notification.STATE_KEYS.number (Some s) (optional_bytes notification.STATE_KEYS.number (Some (payload_of (state_keys_parts s))) ∷ []) refl (sym (state_keys_reads (levels - 1) s h k3.0).value))

pub notification_reads : Reads types.Notification notification_of notification_parts NotificationFits
notification_reads levels v h small =
    let ps = notification_parts v in
    let below = payload_fault (levels - 1) in
    let table = descriptors_of types.Notification in
    let lengths = lengths_fit ps small in
    let id = ap (id_in levels) (run-fields_of notification.ID ps) ∙ id_back levels v.id h.id in
    let result = ap (result_in levels) (run-fields_of notification.RESULT ps) ∙ notification_result_back levels v.result h.result lengths.1.1.1.0 lengths.1.1.1.1.0 lengths.1.1.1.1.1.0 lengths.1.1.1.1.1.1.1.0 in
    read_back levels types.Notification notification_of ps v h.level small (
      optional_u32_holds below table notification.COMPLETION_ID.number (id_completion_id v.id) (refl, refl) (id_completion_id_holds (levels - 1) v.id h.id),
      (
        optional_u32_holds below table notification.SIGNAL_ID.number (id_signal_id v.id) (refl, refl) (id_signal_id_holds (levels - 1) v.id h.id),
        (
          optional_text_holds below table notification.SIGNAL_NAME.number (id_signal_name v.id) (refl, refl) (id_signal_name_holds (levels - 1) v.id h.id),
          (
            optional_record_holds below table notification.VOID.number types.Void (result_void v.result) (refl, refl) (result_void_holds (levels - 1) v.result h.result lengths.1.1.1.0),
            (
              optional_record_holds below table notification.VALUE.number types.Value (result_value v.result) (refl, refl) (result_value_holds (levels - 1) v.result h.result lengths.1.1.1.1.0),
              (
                optional_record_holds below table notification.FAILURE.number types.Failure (result_failure v.result) (refl, refl) (result_failure_holds (levels - 1) v.result h.result lengths.1.1.1.1.1.0),
                (
                  optional_text_holds below table notification.INVOCATION_ID.number (result_invocation_id v.result) (refl, refl) (result_invocation_id_holds (levels - 1) v.result h.result),
                  (
                    optional_record_holds below table notification.STATE_KEYS.number types.StateKeys (result_state_keys v.result) (refl, refl) (result_state_keys_holds (levels - 1) v.result h.result lengths.1.1.1.1.1.1.1.0),
                    tt,
                  ),
                ),
              ),
            ),
          ),
        ),
      ),
    ) (λ i. record {
      id = id i;
      result = result i;
    })

-- of the fields of the result alone
ephemeral_result_back : (levels : ℕ) (o : Option GetStateEphemeralNotificationResult) → ChoiceFits ephemeral_choice (levels - 1) o → AllByRecursion LengthFits (bytes_if (first_spelled ephemeral_choice o)) → AllByRecursion LengthFits (bytes_if (second_spelled ephemeral_choice o)) → chosen_in ephemeral_choice levels (last_run (held_among get_state_ephemeral_notification.RESULT (choice_parts ephemeral_choice o))) ≡ o
unfolding texts last_bytes last_number
ephemeral_result_back levels None h k0 k1 = refl
ephemeral_result_back levels (Some (ephemeral_results.Void v)) h k0 k1 =
    ap (λ (o : Option Void). first_present (option_map (λ v. ephemeral_results.Void v) o) None) (optional_record_back (void_of (levels - 1)) (λ r. payload_of (void_parts r)) get_state_ephemeral_notification.VOID.number (Some v) (optional_bytes get_state_ephemeral_notification.VOID.number (Some (payload_of (void_parts v))) ∷ []) refl (sym (void_reads (levels - 1) v h k0.0).value))
ephemeral_result_back levels (Some (ephemeral_results.Value v)) h k0 k1 =
    ap (λ (o : Option Value). option_map (λ v. ephemeral_results.Value v) o) (optional_record_back (value_of (levels - 1)) (λ r. payload_of (value_parts r)) get_state_ephemeral_notification.VALUE.number (Some v) (optional_bytes get_state_ephemeral_notification.VALUE.number (Some (payload_of (value_parts v))) ∷ []) refl (sym (value_reads (levels - 1) v h k1.0).value))

pub get_state_ephemeral_notification_reads : Reads types.GetStateEphemeralNotification get_state_ephemeral_notification_of get_state_ephemeral_notification_parts GetStateEphemeralNotificationFits
get_state_ephemeral_notification_reads levels v h small =
    let ps = get_state_ephemeral_notification_parts v in
    let below = payload_fault (levels - 1) in
    let table = descriptors_of types.GetStateEphemeralNotification in
    let lengths = lengths_fit ps small in
    let result = ap (chosen_in ephemeral_choice levels) (run-fields_of get_state_ephemeral_notification.RESULT ps) ∙ ephemeral_result_back levels v.result h.result lengths.1.0 lengths.1.1.0 in
    read_back levels types.GetStateEphemeralNotification get_state_ephemeral_notification_of ps v h.level small (
      u32_holds below table get_state_ephemeral_notification.EPHEMERAL_COMPLETION_ID.number v.ephemeral_completion_id (refl, refl) h.ephemeral_completion_id,
      (
        optional_record_holds below table get_state_ephemeral_notification.VOID.number types.Void (first_spelled ephemeral_choice v.result) (refl, refl) (first_sound ephemeral_choice (levels - 1) types.Void void_of (void_reads (levels - 1)) v.result h.result lengths.1.0),
        (
          optional_record_holds below table get_state_ephemeral_notification.VALUE.number types.Value (second_spelled ephemeral_choice v.result) (refl, refl) (second_sound ephemeral_choice (levels - 1) types.Value value_of (value_reads (levels - 1)) v.result h.result lengths.1.1.0),
          tt,
        ),
      ),
    ) (λ i. record {
      ephemeral_completion_id = u32_back get_state_ephemeral_notification.EPHEMERAL_COMPLETION_ID.number v.ephemeral_completion_id ps refl h.ephemeral_completion_id i;
      result = result i;
    })

-- of the fields of the result alone
proposal_result_back : (levels : ℕ) (o : Option ProposeRunCompletionResult) → ChoiceFits proposal_choice (levels - 1) o → AllByRecursion LengthFits (bytes_if (second_spelled proposal_choice o)) → chosen_in proposal_choice levels (last_run (held_among propose_run_completion.RESULT (choice_parts proposal_choice o))) ≡ o
unfolding texts last_bytes last_number
proposal_result_back levels None h k0 = refl
proposal_result_back levels (Some (proposal_results.Value v)) h k0 =
    ap (λ (o : Option (List ℕ)). first_present (option_map (λ v. proposal_results.Value v) o) None) (optional_text_back propose_run_completion.VALUE.number (Some v) (optional_bytes propose_run_completion.VALUE.number (Some v) ∷ []) refl)
proposal_result_back levels (Some (proposal_results.Failure f)) h k0 =
    ap (λ (o : Option Failure). option_map (λ f. proposal_results.Failure f) o) (optional_record_back (failure_of (levels - 1)) (λ r. payload_of (failure_parts r)) propose_run_completion.FAILURE.number (Some f) (optional_bytes propose_run_completion.FAILURE.number (Some (payload_of (failure_parts f))) ∷ []) refl (sym (failure_reads (levels - 1) f h k0.0).value))

pub propose_run_completion_reads : Reads types.ProposeRunCompletion propose_run_completion_of propose_run_completion_parts ProposeRunCompletionFits
propose_run_completion_reads levels v h small =
    let ps = propose_run_completion_parts v in
    let below = payload_fault (levels - 1) in
    let table = descriptors_of types.ProposeRunCompletion in
    let lengths = lengths_fit ps small in
    let result = ap (chosen_in proposal_choice levels) (run-fields_of propose_run_completion.RESULT ps) ∙ proposal_result_back levels v.result h.result lengths.1.1.0 in
    read_back levels types.ProposeRunCompletion propose_run_completion_of ps v h.level small (
      u32_holds below table propose_run_completion.RESULT_COMPLETION_ID.number v.result_completion_id (refl, refl) h.result_completion_id,
      (
        optional_bytes_holds below table propose_run_completion.VALUE.number (first_spelled proposal_choice v.result) (refl, refl),
        (
          optional_record_holds below table propose_run_completion.FAILURE.number types.Failure (second_spelled proposal_choice v.result) (refl, refl) (second_sound proposal_choice (levels - 1) types.Failure failure_of (failure_reads (levels - 1)) v.result h.result lengths.1.1.0),
          tt,
        ),
      ),
    ) (λ i. record {
      result_completion_id = u32_back propose_run_completion.RESULT_COMPLETION_ID.number v.result_completion_id ps refl h.result_completion_id i;
      result = result i;
    })
