-- What payloads of the protocol's records tell, where they are such payloads.
use Rattle.std.specs.Prelude.{ℕ, ◌==◌, length, map, if◌then◌else◌, List, Option, Some, None, option_map}
use Rattle.journal_model.specs.Notification.{Bytes, Text}
use Rattle.journal_model.specs.declared.call.AttachInvocationTarget.{AttachInvocationTarget}
use Rattle.journal_model.specs.declared.call.AttachInvocationTarget.TheVariants as targets
use Rattle.journal_model.specs.declared.value.NonEmptyValue.{NonEmptyValue}
use Rattle.journal_model.specs.declared.value.TerminalFailure.{TerminalFailure}
use Rattle.protocol_calls.specs.AttachInvocationCommand.{attach_invocation_command_of}
use Rattle.protocol_calls.specs.Fields.{call_command_of}
use Rattle.protocol_calls.specs.declared.call_command.CallCommandMessage.{CallCommandMessage}
use Rattle.protocol_calls.specs.declared.invocation_target.InvocationTarget.{InvocationTarget}
use Rattle.protocol_calls.specs.declared.invocation_target.InvocationTarget.TheVariants as told
use Rattle.protocol_records.specs.Failure.{failure_of}
use Rattle.protocol_stream.specs.Records.{header_told, terminal_failure_told}
use Rattle.protocol_wire.specs.Fields.{fields}
use Rattle.protocol_wire.specs.declared.record.TheConstants.{LEVELS}
use Rattle.vm_c_values.specs.Options.{is_set}
use Rattle.vm_c_values.specs.declared.records.NamedTarget.{NamedTarget}

-- a text that is not given where it is empty
abbrev pub given : Text → Option Text
given text = if length text == 0 then None else Some text

-- ---- failures

abbrev pub failure_in : (payload : Bytes) → TerminalFailure
failure_in payload = terminal_failure_told (failure_of LEVELS (fields payload))

-- a value, or the failure that a payload tells
abbrev pub value_in : (failed : ℕ) → Bytes → NonEmptyValue
value_in failed bytes = if is_set failed then NonEmptyValue.Failure (failure_in bytes) else NonEmptyValue.Success bytes

-- ---- targets

abbrev pub target_told : CallCommandMessage → NamedTarget
target_told read = record {
  target = record {
    service = read.service_name;
    handler = read.handler_name;
    key = given read.key;
    idempotency_key = read.idempotency_key;
    scope = read.scope;
    limit_key = read.limit_key;
    headers = map header_told read.headers;
  };
  name = given read.name;
}

abbrev pub call_target_in : (payload : Bytes) → NamedTarget
call_target_in payload = target_told (call_command_of LEVELS (fields payload))

abbrev pub attached : InvocationTarget → AttachInvocationTarget
attached (told.InvocationId id) = targets.InvocationId id
attached (told.WorkflowTarget workflow) = targets.WorkflowId workflow.workflow_name workflow.workflow_key workflow.scope
attached (told.IdempotentRequestTarget request) =
    targets.IdempotencyId request.service_name request.handler_name request.idempotency_key request.service_key request.scope

abbrev pub attach_target_in : (payload : Bytes) → Option AttachInvocationTarget
attach_target_in payload = option_map attached (attach_invocation_command_of LEVELS (fields payload)).target
