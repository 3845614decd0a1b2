-- The fields of a notification.
use Rattle.std.specs.Prelude.{IsUtf8, List, [], option_map, ℕ, ◌-◌, ◌<◌, ◌^◌, ◌∷◌, ◌++◌, Option, Some, None}
use Rattle.protocol_wire.specs.Wire.{Field}
use Rattle.protocol_wire.specs.Selection.{optional_u32, optional_text, optional_record, run, first_present}
use Rattle.protocol_wire.specs.Parts.{Part, optional_number, optional_bytes, payload_of}
use Rattle.protocol_table.specs.declared.table.notification.TheConstants.{COMPLETION_ID, FAILURE, ID, INVOCATION_ID, RESULT, SIGNAL_ID, SIGNAL_NAME, STATE_KEYS, VALUE, VOID}
use Rattle.protocol_records.specs.Failure.{failure_of, failure_parts, FailureFits}
use Rattle.protocol_records.specs.StateKeys.{state_keys_of, state_keys_parts, StateKeysFits}
use Rattle.protocol_records.specs.Value.{value_of, value_parts, ValueFits}
use Rattle.protocol_records.specs.Void.{void_of, void_parts, VoidFits}
use Rattle.protocol_controls.specs.declared.notification.NotificationMessage.{NotificationMessage}
use Rattle.protocol_controls.specs.declared.notification.NotificationMessageId.{NotificationMessageId}
use Rattle.protocol_controls.specs.declared.notification.NotificationMessageId.TheVariants as ids
use Rattle.protocol_controls.specs.declared.notification.NotificationMessageResult.{NotificationMessageResult}
use Rattle.protocol_controls.specs.declared.notification.NotificationMessageResult.TheVariants as results

abbrev pub id_in : ℕ → List Field → Option NotificationMessageId
id_in levels fs =
    first_present (option_map (λ c. ids.CompletionId c) (optional_u32 COMPLETION_ID.number fs)) (
    first_present (option_map (λ s. ids.SignalId s) (optional_u32 SIGNAL_ID.number fs)) (
    option_map (λ s. ids.SignalName s) (optional_text SIGNAL_NAME.number fs)))

-- Of these the last run stands.
abbrev pub notification_id_of : ℕ → List Field → Option NotificationMessageId
notification_id_of levels fs = id_in levels (run ID fs)

abbrev pub result_in : ℕ → List Field → Option NotificationMessageResult
result_in levels fs =
    first_present (option_map (λ v. results.Void v) (optional_record (void_of (levels - 1)) VOID.number fs)) (
    first_present (option_map (λ v. results.Value v) (optional_record (value_of (levels - 1)) VALUE.number fs)) (
    first_present (option_map (λ f. results.Failure f) (optional_record (failure_of (levels - 1)) FAILURE.number fs)) (
    first_present (option_map (λ x. results.InvocationId x) (optional_text INVOCATION_ID.number fs)) (
    option_map (λ s. results.StateKeys s) (optional_record (state_keys_of (levels - 1)) STATE_KEYS.number fs)))))

-- Of these the last run stands.
abbrev pub notification_result_of : ℕ → List Field → Option NotificationMessageResult
notification_result_of levels fs = result_in levels (run RESULT fs)

abbrev pub notification_of : ℕ → List Field → NotificationMessage
notification_of levels fs = record {
  id = notification_id_of levels fs;
  result = notification_result_of levels fs;
}

abbrev pub id_completion_id : Option NotificationMessageId → Option ℕ
id_completion_id None = None
id_completion_id (Some (ids.CompletionId c)) = Some c
id_completion_id (Some (ids.SignalId s)) = None
id_completion_id (Some (ids.SignalName s)) = None

abbrev pub id_signal_id : Option NotificationMessageId → Option ℕ
id_signal_id None = None
id_signal_id (Some (ids.CompletionId c)) = None
id_signal_id (Some (ids.SignalId s)) = Some s
id_signal_id (Some (ids.SignalName s)) = None

abbrev pub id_signal_name : Option NotificationMessageId → Option (List ℕ)
id_signal_name None = None
id_signal_name (Some (ids.CompletionId c)) = None
id_signal_name (Some (ids.SignalId s)) = None
id_signal_name (Some (ids.SignalName s)) = Some s

abbrev pub id_parts : Option NotificationMessageId → List Part
id_parts o =
    optional_number COMPLETION_ID.number (id_completion_id o) ∷
    optional_number SIGNAL_ID.number (id_signal_id o) ∷
    optional_bytes SIGNAL_NAME.number (id_signal_name o) ∷ []

abbrev pub result_void : Option NotificationMessageResult → Option (List ℕ)
result_void None = None
result_void (Some (results.Void v)) = Some (payload_of (void_parts v))
result_void (Some (results.Value v)) = None
result_void (Some (results.Failure f)) = None
result_void (Some (results.InvocationId x)) = None
result_void (Some (results.StateKeys s)) = None

abbrev pub result_value : Option NotificationMessageResult → Option (List ℕ)
result_value None = None
result_value (Some (results.Void v)) = None
result_value (Some (results.Value v)) = Some (payload_of (value_parts v))
result_value (Some (results.Failure f)) = None
result_value (Some (results.InvocationId x)) = None
result_value (Some (results.StateKeys s)) = None

abbrev pub result_failure : Option NotificationMessageResult → Option (List ℕ)
result_failure None = None
result_failure (Some (results.Void v)) = None
result_failure (Some (results.Value v)) = None
result_failure (Some (results.Failure f)) = Some (payload_of (failure_parts f))
result_failure (Some (results.InvocationId x)) = None
result_failure (Some (results.StateKeys s)) = None

abbrev pub result_invocation_id : Option NotificationMessageResult → Option (List ℕ)
result_invocation_id None = None
result_invocation_id (Some (results.Void v)) = None
result_invocation_id (Some (results.Value v)) = None
result_invocation_id (Some (results.Failure f)) = None
result_invocation_id (Some (results.InvocationId x)) = Some x
result_invocation_id (Some (results.StateKeys s)) = None

abbrev pub result_state_keys : Option NotificationMessageResult → Option (List ℕ)
result_state_keys None = None
result_state_keys (Some (results.Void v)) = None
result_state_keys (Some (results.Value v)) = None
result_state_keys (Some (results.Failure f)) = None
result_state_keys (Some (results.InvocationId x)) = None
result_state_keys (Some (results.StateKeys s)) = Some (payload_of (state_keys_parts s))

abbrev pub result_parts : Option NotificationMessageResult → List Part
result_parts o =
    optional_bytes VOID.number (result_void o) ∷
    optional_bytes VALUE.number (result_value o) ∷
    optional_bytes FAILURE.number (result_failure o) ∷
    optional_bytes INVOCATION_ID.number (result_invocation_id o) ∷
    optional_bytes STATE_KEYS.number (result_state_keys o) ∷ []

abbrev pub notification_parts : NotificationMessage → List Part
notification_parts v =
    (id_parts v.id ++ (
    result_parts v.result))

abbrev pub NotificationMessageIdFits : ℕ → Option NotificationMessageId → Type 0
NotificationMessageIdFits levels None = Unit {0}
NotificationMessageIdFits levels (Some (ids.CompletionId c)) = c < 2 ^ 32
NotificationMessageIdFits levels (Some (ids.SignalId s)) = s < 2 ^ 32
NotificationMessageIdFits levels (Some (ids.SignalName s)) = IsUtf8 s

abbrev pub NotificationMessageResultFits : ℕ → Option NotificationMessageResult → Type 0
NotificationMessageResultFits levels None = Unit {0}
NotificationMessageResultFits levels (Some (results.Void v)) = VoidFits levels v
NotificationMessageResultFits levels (Some (results.Value v)) = ValueFits levels v
NotificationMessageResultFits levels (Some (results.Failure f)) = FailureFits levels f
NotificationMessageResultFits levels (Some (results.InvocationId x)) = IsUtf8 x
NotificationMessageResultFits levels (Some (results.StateKeys s)) = StateKeysFits levels s

pub record NotificationFits (levels : ℕ) (v : NotificationMessage) : Type 0 where
  pub level : 0 < levels
  pub id : NotificationMessageIdFits (levels - 1) v.id
  pub result : NotificationMessageResultFits (levels - 1) v.result
