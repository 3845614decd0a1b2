-- How targets, and what commands choose among, are printed.
use Rattle.std.specs.Prelude.{ℕ, List, ◌++◌, decimal, codes}
use Rattle.protocol_types.specs.Texts.{quoted, optional_text}
use Rattle.protocol_records.specs.Texts.{failure_text, value_text, void_text}
use Rattle.protocol_calls.specs.declared.complete_awakeable_command.CompleteAwakeableCommandResult.{CompleteAwakeableCommandResult}
use Rattle.protocol_calls.specs.declared.complete_awakeable_command.CompleteAwakeableCommandResult.TheVariants as awakeables
use Rattle.protocol_calls.specs.declared.send_signal_command.SendSignalCommandSignalId.{SendSignalCommandSignalId}
use Rattle.protocol_calls.specs.declared.send_signal_command.SendSignalCommandSignalId.TheVariants as signals
use Rattle.protocol_calls.specs.declared.send_signal_command.SendSignalCommandResult.{SendSignalCommandResult}
use Rattle.protocol_calls.specs.declared.send_signal_command.SendSignalCommandResult.TheVariants as results
use Rattle.protocol_calls.specs.declared.workflow_target.WorkflowTarget.{WorkflowTarget}
use Rattle.protocol_calls.specs.declared.idempotent_request_target.IdempotentRequestTarget.{IdempotentRequestTarget}
use Rattle.protocol_calls.specs.declared.invocation_target.InvocationTarget.{InvocationTarget}
use Rattle.protocol_calls.specs.declared.invocation_target.InvocationTarget.TheVariants as targets

abbrev pub workflow_target_text : WorkflowTarget → List ℕ
workflow_target_text target = (codes "workflow " ++ quoted target.workflow_name) ++ (codes ", key " ++ quoted target.workflow_key) ++ (codes ", scope " ++ optional_text quoted target.scope)

abbrev pub idempotent_request_target_text : IdempotentRequestTarget → List ℕ
idempotent_request_target_text target = (codes "service " ++ quoted target.service_name) ++ (codes ", key " ++ optional_text quoted target.service_key)
    ++ (codes ", handler " ++ quoted target.handler_name) ++ (codes ", idempotency key " ++ quoted target.idempotency_key) ++ (codes ", scope " ++ optional_text quoted target.scope)

-- ---- what commands choose among

abbrev pub awakeable_result_text : CompleteAwakeableCommandResult → List ℕ
awakeable_result_text (awakeables.Value value) = value_text value
awakeable_result_text (awakeables.Failure failure) = failure_text failure

abbrev pub signal_id_text : SendSignalCommandSignalId → List ℕ
signal_id_text (signals.Idx idx) = decimal idx
signal_id_text (signals.Name name) = quoted name

abbrev pub signal_result_text : SendSignalCommandResult → List ℕ
signal_result_text (results.Void void) = void_text void
signal_result_text (results.Value value) = value_text value
signal_result_text (results.Failure failure) = failure_text failure

abbrev pub invocation_target_text : InvocationTarget → List ℕ
invocation_target_text (targets.InvocationId id) = codes "invocation " ++ quoted id
invocation_target_text (targets.WorkflowTarget target) = workflow_target_text target
invocation_target_text (targets.IdempotentRequestTarget target) = idempotent_request_target_text target
