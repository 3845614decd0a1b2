-- When what a command chooses among is the same: it is the same variant, which holds the same.
use Rattle.std.specs.Prelude.{◌≡◌, Bool, true, false, nat_eq}
use Rattle.std.proofs.Common.{ap}
use Rattle.protocol_equality.specs.EqualityTests.{DecidesErased, whole}
use Rattle.protocol_equality.specs.Parts.{same_text, numbers_tell, texts_tell}
use Rattle.protocol_equality.specs.Records.{same_value, value_tells, same_void, void_tells, same_failure, failure_tells, same_workflow_target, workflow_target_tells, same_idempotent_request_target, idempotent_request_target_tells}
use Rattle.protocol_calls.specs.declared.send_signal_command.SendSignalCommandSignalId.{SendSignalCommandSignalId}
use Rattle.protocol_calls.specs.declared.send_signal_command.SendSignalCommandSignalId.TheVariants as signals
use Rattle.protocol_calls.specs.declared.send_signal_command.SendSignalCommandResult.{SendSignalCommandResult}
use Rattle.protocol_calls.specs.declared.send_signal_command.SendSignalCommandResult.TheVariants as results
use Rattle.protocol_calls.specs.declared.invocation_target.InvocationTarget.{InvocationTarget}
use Rattle.protocol_calls.specs.declared.invocation_target.InvocationTarget.TheVariants as targets

abbrev pub same_signal_id : SendSignalCommandSignalId → SendSignalCommandSignalId → Bool
same_signal_id (signals.Idx x) (signals.Idx y) = nat_eq x y
same_signal_id (signals.Name x) (signals.Name y) = same_text x y
same_signal_id _ _ = false

pub signal_id_tells : DecidesErased same_signal_id (whole {A = SendSignalCommandSignalId})
signal_id_tells = record { alike = alike; found = found }
  where
    alike : (x y : SendSignalCommandSignalId) → same_signal_id x y ≡ true → x ≡ y
    alike (signals.Idx x) (signals.Idx y) h = ap signals.Idx (numbers_tell.alike x y h)
    alike (signals.Idx x) (signals.Name y) h = cc
    alike (signals.Name x) (signals.Idx y) h = cc
    alike (signals.Name x) (signals.Name y) h = ap signals.Name (texts_tell.alike x y h)

    found : (x y : SendSignalCommandSignalId) → x ≡ y → same_signal_id x y ≡ true
    found (signals.Idx x) (signals.Idx y) h = numbers_tell.found x y (cc)
    found (signals.Idx x) (signals.Name y) h = cc
    found (signals.Name x) (signals.Idx y) h = cc
    found (signals.Name x) (signals.Name y) h = texts_tell.found x y (cc)

abbrev pub same_signal_result : SendSignalCommandResult → SendSignalCommandResult → Bool
same_signal_result (results.Void x) (results.Void y) = same_void x y
same_signal_result (results.Value x) (results.Value y) = same_value x y
same_signal_result (results.Failure x) (results.Failure y) = same_failure x y
same_signal_result _ _ = false

pub signal_result_tells : DecidesErased same_signal_result (whole {A = SendSignalCommandResult})
signal_result_tells = record { alike = alike; found = found }
  where
    alike : (x y : SendSignalCommandResult) → same_signal_result x y ≡ true → x ≡ y
    alike (results.Void x) (results.Void y) h = ap results.Void (void_tells.alike x y h)
    alike (results.Void x) (results.Value y) h = cc
    alike (results.Void x) (results.Failure y) h = cc
    alike (results.Value x) (results.Void y) h = cc
    alike (results.Value x) (results.Value y) h = ap results.Value (value_tells.alike x y h)
    alike (results.Value x) (results.Failure y) h = cc
    alike (results.Failure x) (results.Void y) h = cc
    alike (results.Failure x) (results.Value y) h = cc
    alike (results.Failure x) (results.Failure y) h = ap results.Failure (failure_tells.alike x y h)

    found : (x y : SendSignalCommandResult) → x ≡ y → same_signal_result x y ≡ true
    found (results.Void x) (results.Void y) h = void_tells.found x y (cc)
    found (results.Void x) (results.Value y) h = cc
    found (results.Void x) (results.Failure y) h = cc
    found (results.Value x) (results.Void y) h = cc
    found (results.Value x) (results.Value y) h = value_tells.found x y (cc)
    found (results.Value x) (results.Failure y) h = cc
    found (results.Failure x) (results.Void y) h = cc
    found (results.Failure x) (results.Value y) h = cc
    found (results.Failure x) (results.Failure y) h = failure_tells.found x y (cc)

abbrev pub same_invocation_target : InvocationTarget → InvocationTarget → Bool
same_invocation_target (targets.InvocationId x) (targets.InvocationId y) = same_text x y
same_invocation_target (targets.WorkflowTarget x) (targets.WorkflowTarget y) = same_workflow_target x y
same_invocation_target (targets.IdempotentRequestTarget x) (targets.IdempotentRequestTarget y) = same_idempotent_request_target x y
same_invocation_target _ _ = false

pub invocation_target_tells : DecidesErased same_invocation_target (whole {A = InvocationTarget})
invocation_target_tells = record { alike = alike; found = found }
  where
    alike : (x y : InvocationTarget) → same_invocation_target x y ≡ true → x ≡ y
    alike (targets.InvocationId x) (targets.InvocationId y) h = ap targets.InvocationId (texts_tell.alike x y h)
    alike (targets.InvocationId x) (targets.WorkflowTarget y) h = cc
    alike (targets.InvocationId x) (targets.IdempotentRequestTarget y) h = cc
    alike (targets.WorkflowTarget x) (targets.InvocationId y) h = cc
    alike (targets.WorkflowTarget x) (targets.WorkflowTarget y) h = ap targets.WorkflowTarget (workflow_target_tells.alike x y h)
    alike (targets.WorkflowTarget x) (targets.IdempotentRequestTarget y) h = cc
    alike (targets.IdempotentRequestTarget x) (targets.InvocationId y) h = cc
    alike (targets.IdempotentRequestTarget x) (targets.WorkflowTarget y) h = cc
    alike (targets.IdempotentRequestTarget x) (targets.IdempotentRequestTarget y) h = ap targets.IdempotentRequestTarget (idempotent_request_target_tells.alike x y h)

    found : (x y : InvocationTarget) → x ≡ y → same_invocation_target x y ≡ true
    found (targets.InvocationId x) (targets.InvocationId y) h = texts_tell.found x y (cc)
    found (targets.InvocationId x) (targets.WorkflowTarget y) h = cc
    found (targets.InvocationId x) (targets.IdempotentRequestTarget y) h = cc
    found (targets.WorkflowTarget x) (targets.InvocationId y) h = cc
    found (targets.WorkflowTarget x) (targets.WorkflowTarget y) h = workflow_target_tells.found x y (cc)
    found (targets.WorkflowTarget x) (targets.IdempotentRequestTarget y) h = cc
    found (targets.IdempotentRequestTarget x) (targets.InvocationId y) h = cc
    found (targets.IdempotentRequestTarget x) (targets.WorkflowTarget y) h = cc
    found (targets.IdempotentRequestTarget x) (targets.IdempotentRequestTarget y) h = idempotent_request_target_tells.found x y (cc)
