-- The records of typed values fit, so many levels below a payload.
use Rattle.std.proofs.Common.{◌≡◌, ◌<◌, ◌≤◌, ◌+◌, ◌-◌, ◌^◌, ℕ, arith, List, [], ◌∷◌, map, Option, Some, None}
use Rattle.std.specs.Prelude.{IsUtf8, IfSome, unwrap_or}
use Rattle.std.specs.List.{AllByRecursion}
use Rattle.std.proofs.lemmas.Str.{IsUtf8-nil}
use Rattle.protocol_wire.specs.declared.record.TheConstants.{LEVELS}
use Rattle.journal_model.specs.Notification.{Bytes, Text}
use Rattle.journal_model.specs.declared.value.NonEmptyValue.{NonEmptyValue}
use Rattle.journal_model.specs.declared.value.TerminalFailure.{TerminalFailure}
use Rattle.journal_model.specs.declared.call.Header.{Header}
use Rattle.journal_model.specs.declared.call.Target.{Target}
use Rattle.journal_model.specs.declared.call.AttachInvocationTarget.{AttachInvocationTarget}
use Rattle.journal_model.specs.Request.{SignalValue}
use Rattle.journal_model.specs.declared.notification.SignalKey.{SignalKey}
use Rattle.journal_model.specs.Run.{name_or_empty, call_record}
use Rattle.protocol_records.specs.Header.{HeaderFits}
use Rattle.protocol_records.specs.FailureMetadata.{FailureMetadataFits}
use Rattle.protocol_records.specs.Failure.{FailureFits}
use Rattle.protocol_records.specs.Value.{ValueFits}
use Rattle.protocol_records.specs.Choice.{ChoiceFits}
use Rattle.protocol_records.specs.OutputCommand.{output_choice}
use Rattle.protocol_calls.specs.Fields.{CallCommandFits, OneWayCallCommandFits}
use Rattle.protocol_calls.specs.SendSignalCommand.{SendSignalCommandResultFits}
use Rattle.protocol_calls.specs.InvocationTarget.{InvocationTargetFits}
use Rattle.protocol_stream.specs.Records.{header_record, value_record, pair_record, failure_record, result_record}
use Rattle.protocol_laws.specs.Records as spelled
use Rattle.protocol_calls.specs.Choices.{awakeable_choice}
use Rattle.protocol_commands.specs.Choices.{eager_choice, promise_choice}
use Rattle.vm_request_laws.specs.Calls.{IsTypedPair, IsTypedFailure, IsTypedValue, IsTypedHeader, IsTypedTarget, IsTypedAttach}

pub first_level : 0 < LEVELS
first_level = omega arith

pub second_level : 0 < LEVELS - 1
second_level = omega arith

third_level : 0 < LEVELS - 1 - 1
third_level = omega arith

-- ---- texts

pub name_fits : (name : Option Text) → IfSome name IsUtf8 → IsUtf8 (name_or_empty name)
name_fits None h = IsUtf8-nil
name_fits (Some name) h = h

-- ---- values

pub value_fits : (bytes : Bytes) → ValueFits (LEVELS - 1) (value_record bytes)
value_fits bytes = record { level = second_level }

pairs_fit : (pairs : List (Text × Text)) → AllByRecursion IsTypedPair pairs → AllByRecursion (FailureMetadataFits (LEVELS - 1 - 1)) (map pair_record pairs)
pairs_fit [] h = tt
pairs_fit (pair ∷ pairs) h = (record { level = third_level; key = h.0.0; value = h.0.1 }, pairs_fit pairs h.1)

failure_fits : (failure : TerminalFailure) → IsTypedFailure failure → FailureFits (LEVELS - 1) (failure_record failure)
failure_fits failure h = record { level = second_level; code = omega (arith, h.code); message = h.message; metadata = pairs_fit failure.metadata h.metadata }

pub output_fits : (value : NonEmptyValue) → IsTypedValue value → ChoiceFits output_choice (LEVELS - 1) (Some (result_record value))
output_fits (NonEmptyValue.Success bytes) h = value_fits bytes
output_fits (NonEmptyValue.Failure failure) h = failure_fits failure h

pub eager_fits : (value : Option Bytes) → ChoiceFits eager_choice (LEVELS - 1) (Some (spelled.eager_result value))
eager_fits None = record { level = second_level }
eager_fits (Some bytes) = value_fits bytes

pub promise_fits : (value : NonEmptyValue) → IsTypedValue value → ChoiceFits promise_choice (LEVELS - 1) (Some (spelled.promise_completion value))
promise_fits (NonEmptyValue.Success bytes) h = value_fits bytes
promise_fits (NonEmptyValue.Failure failure) h = failure_fits failure h

pub awakeable_fits : (value : NonEmptyValue) → IsTypedValue value → ChoiceFits awakeable_choice (LEVELS - 1) (Some (spelled.awakeable_result value))
awakeable_fits (NonEmptyValue.Success bytes) h = value_fits bytes
awakeable_fits (NonEmptyValue.Failure failure) h = failure_fits failure h

pub signal_fits : (value : NonEmptyValue) → IsTypedValue value → SendSignalCommandResultFits (LEVELS - 1) (Some (spelled.signal_result (SignalValue.Carries value)))
signal_fits (NonEmptyValue.Success bytes) h = value_fits bytes
signal_fits (NonEmptyValue.Failure failure) h = failure_fits failure h

-- ---- targets

headers_fit : (headers : List Header) → AllByRecursion IsTypedHeader headers → AllByRecursion (HeaderFits (LEVELS - 1)) (map header_record headers)
headers_fit [] h = tt
headers_fit (header ∷ headers) h = (record { level = second_level; key = h.0.0; value = h.0.1 }, headers_fit headers h.1)

pub call_fits : (target : Target) (parameter : Bytes) (m n : ℕ) (name : Text) → IsTypedTarget target → m < 2 ^ 32 → n < 2 ^ 32 → IsUtf8 name
    → CallCommandFits LEVELS (spelled.call_record (call_record target parameter) m n name)
call_fits target parameter m n name h first second text = record {
  level = first_level;
  service_name = h.service;
  handler_name = h.handler;
  headers = headers_fit target.headers h.headers;
  key = name_fits target.key h.key;
  idempotency_key = h.idempotency_key;
  scope = h.scope;
  limit_key = h.limit_key;
  invocation_id_notification_idx = first;
  result_completion_id = second;
  name = text;
}

pub send_fits : (target : Target) (parameter : Bytes) (time m : ℕ) (name : Text) → IsTypedTarget target → time < 2 ^ 64 → m < 2 ^ 32 → IsUtf8 name
    → OneWayCallCommandFits LEVELS (spelled.one_way_call_record (call_record target parameter) time m name)
send_fits target parameter time m name h moment first text = record {
  level = first_level;
  service_name = h.service;
  handler_name = h.handler;
  headers = headers_fit target.headers h.headers;
  key = name_fits target.key h.key;
  idempotency_key = h.idempotency_key;
  scope = h.scope;
  limit_key = h.limit_key;
  invoke_time = moment;
  invocation_id_notification_idx = first;
  name = text;
}

pub target_fits : (target : AttachInvocationTarget) → IsTypedAttach target → InvocationTargetFits (LEVELS - 1) (Some (spelled.target_record target))
target_fits (AttachInvocationTarget.InvocationId id) h = h
target_fits (AttachInvocationTarget.WorkflowId name key scope) h = record { level = second_level; workflow_name = h.0; workflow_key = h.1; scope = h.2 }
target_fits (AttachInvocationTarget.IdempotencyId service handler key service_key scope) h = record {
  level = second_level;
  service_name = h.0;
  service_key = h.3;
  handler_name = h.1;
  idempotency_key = h.2;
  scope = h.4;
}
