-- The fields of a send signal command.
use Rattle.std.specs.Prelude.{IsUtf8, List, [], option_map, ℕ, ◌-◌, ◌<◌, ◌^◌, ◌∷◌, ◌++◌, Option, Some, None}
use Rattle.protocol_wire.specs.Wire.{Field}
use Rattle.protocol_wire.specs.Selection.{text, optional_u32, optional_text, optional_record, run, first_present}
use Rattle.protocol_wire.specs.Parts.{Part, optional_number, optional_bytes, payload_of, plain_bytes}
use Rattle.protocol_table.specs.declared.table.send_signal_command.TheConstants.{ENTRY_NAME, FAILURE, IDX, NAME, RESULT, SIGNAL_ID, TARGET_INVOCATION_ID, VALUE, VOID}
use Rattle.protocol_records.specs.Failure.{failure_of, failure_parts, FailureFits}
use Rattle.protocol_records.specs.Value.{value_of, value_parts, ValueFits}
use Rattle.protocol_records.specs.Void.{void_of, void_parts, VoidFits}
use Rattle.protocol_calls.specs.declared.send_signal_command.SendSignalCommandMessage.{SendSignalCommandMessage}
use Rattle.protocol_calls.specs.declared.send_signal_command.SendSignalCommandSignalId.{SendSignalCommandSignalId}
use Rattle.protocol_calls.specs.declared.send_signal_command.SendSignalCommandSignalId.TheVariants as signal_ids
use Rattle.protocol_calls.specs.declared.send_signal_command.SendSignalCommandResult.{SendSignalCommandResult}
use Rattle.protocol_calls.specs.declared.send_signal_command.SendSignalCommandResult.TheVariants as results

abbrev pub signal_id_in : ℕ → List Field → Option SendSignalCommandSignalId
signal_id_in levels fs =
    first_present (option_map (λ x. signal_ids.Idx x) (optional_u32 IDX.number fs)) (
    option_map (λ n. signal_ids.Name n) (optional_text NAME.number fs))

-- Of these the last run stands.
abbrev pub send_signal_command_signal_id_of : ℕ → List Field → Option SendSignalCommandSignalId
send_signal_command_signal_id_of levels fs = signal_id_in levels (run SIGNAL_ID fs)

abbrev pub result_in : ℕ → List Field → Option SendSignalCommandResult
result_in levels fs =
    first_present (option_map (λ v. results.Void v) (optional_record (void_of (levels - 1)) VOID.number fs)) (
    first_present (option_map (λ v. results.Value v) (optional_record (value_of (levels - 1)) VALUE.number fs)) (
    option_map (λ f. results.Failure f) (optional_record (failure_of (levels - 1)) FAILURE.number fs)))

-- Of these the last run stands.
abbrev pub send_signal_command_result_of : ℕ → List Field → Option SendSignalCommandResult
send_signal_command_result_of levels fs = result_in levels (run RESULT fs)

abbrev pub send_signal_command_of : ℕ → List Field → SendSignalCommandMessage
send_signal_command_of levels fs = record {
  target_invocation_id = text TARGET_INVOCATION_ID.number fs;
  signal_id = send_signal_command_signal_id_of levels fs;
  result = send_signal_command_result_of levels fs;
  entry_name = text ENTRY_NAME.number fs;
}

abbrev pub signal_id_idx : Option SendSignalCommandSignalId → Option ℕ
signal_id_idx None = None
signal_id_idx (Some (signal_ids.Idx x)) = Some x
signal_id_idx (Some (signal_ids.Name n)) = None

abbrev pub signal_id_name : Option SendSignalCommandSignalId → Option (List ℕ)
signal_id_name None = None
signal_id_name (Some (signal_ids.Idx x)) = None
signal_id_name (Some (signal_ids.Name n)) = Some n

abbrev pub signal_id_parts : Option SendSignalCommandSignalId → List Part
signal_id_parts o =
    optional_number IDX.number (signal_id_idx o) ∷
    optional_bytes NAME.number (signal_id_name o) ∷ []

abbrev pub result_void : Option SendSignalCommandResult → Option (List ℕ)
result_void None = None
result_void (Some (results.Void v)) = Some (payload_of (void_parts v))
result_void (Some (results.Value v)) = None
result_void (Some (results.Failure f)) = None

abbrev pub result_value : Option SendSignalCommandResult → Option (List ℕ)
result_value None = None
result_value (Some (results.Void v)) = None
result_value (Some (results.Value v)) = Some (payload_of (value_parts v))
result_value (Some (results.Failure f)) = None

abbrev pub result_failure : Option SendSignalCommandResult → Option (List ℕ)
result_failure None = None
result_failure (Some (results.Void v)) = None
result_failure (Some (results.Value v)) = None
result_failure (Some (results.Failure f)) = Some (payload_of (failure_parts f))

abbrev pub result_parts : Option SendSignalCommandResult → List Part
result_parts o =
    optional_bytes VOID.number (result_void o) ∷
    optional_bytes VALUE.number (result_value o) ∷
    optional_bytes FAILURE.number (result_failure o) ∷ []

abbrev pub send_signal_command_parts : SendSignalCommandMessage → List Part
send_signal_command_parts v =
    plain_bytes TARGET_INVOCATION_ID.number v.target_invocation_id ∷
    (signal_id_parts v.signal_id ++ (
    (result_parts v.result ++ (
    plain_bytes ENTRY_NAME.number v.entry_name ∷ []))))

abbrev pub SendSignalCommandSignalIdFits : ℕ → Option SendSignalCommandSignalId → Type 0
SendSignalCommandSignalIdFits levels None = Unit {0}
SendSignalCommandSignalIdFits levels (Some (signal_ids.Idx x)) = x < 2 ^ 32
SendSignalCommandSignalIdFits levels (Some (signal_ids.Name n)) = IsUtf8 n

abbrev pub SendSignalCommandResultFits : ℕ → Option SendSignalCommandResult → Type 0
SendSignalCommandResultFits levels None = Unit {0}
SendSignalCommandResultFits levels (Some (results.Void v)) = VoidFits levels v
SendSignalCommandResultFits levels (Some (results.Value v)) = ValueFits levels v
SendSignalCommandResultFits levels (Some (results.Failure f)) = FailureFits levels f

pub record SendSignalCommandFits (levels : ℕ) (v : SendSignalCommandMessage) : Type 0 where
  pub level : 0 < levels
  pub target_invocation_id : IsUtf8 v.target_invocation_id
  pub signal_id : SendSignalCommandSignalIdFits (levels - 1) v.signal_id
  pub result : SendSignalCommandResultFits (levels - 1) v.result
  pub entry_name : IsUtf8 v.entry_name
