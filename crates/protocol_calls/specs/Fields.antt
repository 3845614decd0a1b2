-- The fields of each command towards another invocation.
use Rattle.std.specs.Prelude.{IsUtf8, IfSome, List, [], ℕ, ◌<◌, ◌∷◌, map, ◌-◌, ◌^◌}
use Rattle.std.specs.List.{AllByRecursion}
use Rattle.protocol_wire.specs.Wire.{Field}
use Rattle.protocol_wire.specs.Selection.{text, optional_text, u32, records, u64}
use Rattle.protocol_wire.specs.Parts.{Part, optional_bytes, plain_bytes, payload_of, plain_number, repeated_bytes}
use Rattle.protocol_table.specs.declared.table.workflow_target.TheConstants as workflow_target
use Rattle.protocol_table.specs.declared.table.idempotent_request_target.TheConstants as idempotent_request_target
use Rattle.protocol_table.specs.declared.table.call_command.TheConstants as call_command
use Rattle.protocol_table.specs.declared.table.one_way_call_command.TheConstants as one_way_call_command
use Rattle.protocol_records.specs.Header.{header_of, header_parts, HeaderFits}
use Rattle.protocol_calls.specs.declared.workflow_target.WorkflowTarget.{WorkflowTarget}
use Rattle.protocol_calls.specs.declared.idempotent_request_target.IdempotentRequestTarget.{IdempotentRequestTarget}
use Rattle.protocol_calls.specs.declared.call_command.CallCommandMessage.{CallCommandMessage}
use Rattle.protocol_calls.specs.declared.one_way_call_command.OneWayCallCommandMessage.{OneWayCallCommandMessage}

abbrev pub workflow_target_of : ℕ → List Field → WorkflowTarget
workflow_target_of levels fs = record {
  workflow_name = text workflow_target.WORKFLOW_NAME.number fs;
  workflow_key = text workflow_target.WORKFLOW_KEY.number fs;
  scope = optional_text workflow_target.SCOPE.number fs;
}

abbrev pub workflow_target_parts : WorkflowTarget → List Part
workflow_target_parts v =
    plain_bytes workflow_target.WORKFLOW_NAME.number v.workflow_name ∷
    plain_bytes workflow_target.WORKFLOW_KEY.number v.workflow_key ∷
    optional_bytes workflow_target.SCOPE.number v.scope ∷ []

pub record WorkflowTargetFits (levels : ℕ) (v : WorkflowTarget) : Type 0 where
  pub level : 0 < levels
  pub workflow_name : IsUtf8 v.workflow_name
  pub workflow_key : IsUtf8 v.workflow_key
  pub scope : IfSome v.scope IsUtf8

abbrev pub idempotent_request_target_of : ℕ → List Field → IdempotentRequestTarget
idempotent_request_target_of levels fs = record {
  service_name = text idempotent_request_target.SERVICE_NAME.number fs;
  service_key = optional_text idempotent_request_target.SERVICE_KEY.number fs;
  handler_name = text idempotent_request_target.HANDLER_NAME.number fs;
  idempotency_key = text idempotent_request_target.IDEMPOTENCY_KEY.number fs;
  scope = optional_text idempotent_request_target.SCOPE.number fs;
}

abbrev pub idempotent_request_target_parts : IdempotentRequestTarget → List Part
idempotent_request_target_parts v =
    plain_bytes idempotent_request_target.SERVICE_NAME.number v.service_name ∷
    optional_bytes idempotent_request_target.SERVICE_KEY.number v.service_key ∷
    plain_bytes idempotent_request_target.HANDLER_NAME.number v.handler_name ∷
    plain_bytes idempotent_request_target.IDEMPOTENCY_KEY.number v.idempotency_key ∷
    optional_bytes idempotent_request_target.SCOPE.number v.scope ∷ []

pub record IdempotentRequestTargetFits (levels : ℕ) (v : IdempotentRequestTarget) : Type 0 where
  pub level : 0 < levels
  pub service_name : IsUtf8 v.service_name
  pub service_key : IfSome v.service_key IsUtf8
  pub handler_name : IsUtf8 v.handler_name
  pub idempotency_key : IsUtf8 v.idempotency_key
  pub scope : IfSome v.scope IsUtf8

abbrev pub call_command_of : ℕ → List Field → CallCommandMessage
call_command_of levels fs = record {
  service_name = text call_command.SERVICE_NAME.number fs;
  handler_name = text call_command.HANDLER_NAME.number fs;
  parameter = text call_command.PARAMETER.number fs;
  headers = records (header_of (levels - 1)) call_command.HEADERS.number fs;
  key = text call_command.KEY.number fs;
  idempotency_key = optional_text call_command.IDEMPOTENCY_KEY.number fs;
  scope = optional_text call_command.SCOPE.number fs;
  limit_key = optional_text call_command.LIMIT_KEY.number fs;
  invocation_id_notification_idx = u32 call_command.INVOCATION_ID_NOTIFICATION_IDX.number fs;
  result_completion_id = u32 call_command.RESULT_COMPLETION_ID.number fs;
  name = text call_command.NAME.number fs;
}

abbrev pub call_command_parts : CallCommandMessage → List Part
call_command_parts v =
    plain_bytes call_command.SERVICE_NAME.number v.service_name ∷
    plain_bytes call_command.HANDLER_NAME.number v.handler_name ∷
    plain_bytes call_command.PARAMETER.number v.parameter ∷
    repeated_bytes call_command.HEADERS.number (map (λ r. payload_of (header_parts r)) v.headers) ∷
    plain_bytes call_command.KEY.number v.key ∷
    optional_bytes call_command.IDEMPOTENCY_KEY.number v.idempotency_key ∷
    optional_bytes call_command.SCOPE.number v.scope ∷
    optional_bytes call_command.LIMIT_KEY.number v.limit_key ∷
    plain_number call_command.INVOCATION_ID_NOTIFICATION_IDX.number v.invocation_id_notification_idx ∷
    plain_number call_command.RESULT_COMPLETION_ID.number v.result_completion_id ∷
    plain_bytes call_command.NAME.number v.name ∷ []

pub record CallCommandFits (levels : ℕ) (v : CallCommandMessage) : Type 0 where
  pub level : 0 < levels
  pub service_name : IsUtf8 v.service_name
  pub handler_name : IsUtf8 v.handler_name
  pub headers : AllByRecursion (HeaderFits (levels - 1)) v.headers
  pub key : IsUtf8 v.key
  pub idempotency_key : IfSome v.idempotency_key IsUtf8
  pub scope : IfSome v.scope IsUtf8
  pub limit_key : IfSome v.limit_key IsUtf8
  pub invocation_id_notification_idx : v.invocation_id_notification_idx < 2 ^ 32
  pub result_completion_id : v.result_completion_id < 2 ^ 32
  pub name : IsUtf8 v.name

abbrev pub one_way_call_command_of : ℕ → List Field → OneWayCallCommandMessage
one_way_call_command_of levels fs = record {
  service_name = text one_way_call_command.SERVICE_NAME.number fs;
  handler_name = text one_way_call_command.HANDLER_NAME.number fs;
  parameter = text one_way_call_command.PARAMETER.number fs;
  headers = records (header_of (levels - 1)) one_way_call_command.HEADERS.number fs;
  key = text one_way_call_command.KEY.number fs;
  idempotency_key = optional_text one_way_call_command.IDEMPOTENCY_KEY.number fs;
  scope = optional_text one_way_call_command.SCOPE.number fs;
  limit_key = optional_text one_way_call_command.LIMIT_KEY.number fs;
  invoke_time = u64 one_way_call_command.INVOKE_TIME.number fs;
  invocation_id_notification_idx = u32 one_way_call_command.INVOCATION_ID_NOTIFICATION_IDX.number fs;
  name = text one_way_call_command.NAME.number fs;
}

abbrev pub one_way_call_command_parts : OneWayCallCommandMessage → List Part
one_way_call_command_parts v =
    plain_bytes one_way_call_command.SERVICE_NAME.number v.service_name ∷
    plain_bytes one_way_call_command.HANDLER_NAME.number v.handler_name ∷
    plain_bytes one_way_call_command.PARAMETER.number v.parameter ∷
    repeated_bytes one_way_call_command.HEADERS.number (map (λ r. payload_of (header_parts r)) v.headers) ∷
    plain_bytes one_way_call_command.KEY.number v.key ∷
    optional_bytes one_way_call_command.IDEMPOTENCY_KEY.number v.idempotency_key ∷
    optional_bytes one_way_call_command.SCOPE.number v.scope ∷
    optional_bytes one_way_call_command.LIMIT_KEY.number v.limit_key ∷
    plain_number one_way_call_command.INVOKE_TIME.number v.invoke_time ∷
    plain_number one_way_call_command.INVOCATION_ID_NOTIFICATION_IDX.number v.invocation_id_notification_idx ∷
    plain_bytes one_way_call_command.NAME.number v.name ∷ []

pub record OneWayCallCommandFits (levels : ℕ) (v : OneWayCallCommandMessage) : Type 0 where
  pub level : 0 < levels
  pub service_name : IsUtf8 v.service_name
  pub handler_name : IsUtf8 v.handler_name
  pub headers : AllByRecursion (HeaderFits (levels - 1)) v.headers
  pub key : IsUtf8 v.key
  pub idempotency_key : IfSome v.idempotency_key IsUtf8
  pub scope : IfSome v.scope IsUtf8
  pub limit_key : IfSome v.limit_key IsUtf8
  pub invoke_time : v.invoke_time < 2 ^ 64
  pub invocation_id_notification_idx : v.invocation_id_notification_idx < 2 ^ 32
  pub name : IsUtf8 v.name
