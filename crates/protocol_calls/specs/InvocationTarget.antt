-- The fields that say which invocation a command is about.
use Rattle.std.specs.Prelude.{IsUtf8, List, [], option_map, ℕ, ◌-◌, ◌∷◌, Option, Some, None}
use Rattle.protocol_wire.specs.Wire.{Field}
use Rattle.protocol_wire.specs.Selection.{optional_text, optional_record, run, first_present}
use Rattle.protocol_wire.specs.Parts.{Part, optional_bytes, payload_of}
use Rattle.protocol_table.specs.declared.table.attach_invocation_command.TheConstants.{IDEMPOTENT_REQUEST_TARGET, INVOCATION_ID, TARGET, WORKFLOW_TARGET}
use Rattle.protocol_calls.specs.Fields.{idempotent_request_target_of, idempotent_request_target_parts, IdempotentRequestTargetFits, workflow_target_of, workflow_target_parts, WorkflowTargetFits}
use Rattle.protocol_calls.specs.declared.invocation_target.InvocationTarget.{InvocationTarget}
use Rattle.protocol_calls.specs.declared.invocation_target.InvocationTarget.TheVariants as targets

abbrev pub target_in : ℕ → List Field → Option InvocationTarget
target_in levels fs =
    first_present (option_map (λ x. targets.InvocationId x) (optional_text INVOCATION_ID.number fs)) (
    first_present (option_map (λ w. targets.WorkflowTarget w) (optional_record (workflow_target_of (levels - 1)) WORKFLOW_TARGET.number fs)) (
    option_map (λ x. targets.IdempotentRequestTarget x) (optional_record (idempotent_request_target_of (levels - 1)) IDEMPOTENT_REQUEST_TARGET.number fs)))

-- Of these the last run stands.
abbrev pub target_of : ℕ → List Field → Option InvocationTarget
target_of levels fs = target_in levels (run TARGET fs)

abbrev pub target_invocation_id : Option InvocationTarget → Option (List ℕ)
target_invocation_id None = None
target_invocation_id (Some (targets.InvocationId x)) = Some x
target_invocation_id (Some (targets.WorkflowTarget w)) = None
target_invocation_id (Some (targets.IdempotentRequestTarget x)) = None

abbrev pub target_workflow_target : Option InvocationTarget → Option (List ℕ)
target_workflow_target None = None
target_workflow_target (Some (targets.InvocationId x)) = None
target_workflow_target (Some (targets.WorkflowTarget w)) = Some (payload_of (workflow_target_parts w))
target_workflow_target (Some (targets.IdempotentRequestTarget x)) = None

abbrev pub target_idempotent_request_target : Option InvocationTarget → Option (List ℕ)
target_idempotent_request_target None = None
target_idempotent_request_target (Some (targets.InvocationId x)) = None
target_idempotent_request_target (Some (targets.WorkflowTarget w)) = None
target_idempotent_request_target (Some (targets.IdempotentRequestTarget x)) = Some (payload_of (idempotent_request_target_parts x))

abbrev pub target_parts : Option InvocationTarget → List Part
target_parts o =
    optional_bytes INVOCATION_ID.number (target_invocation_id o) ∷
    optional_bytes WORKFLOW_TARGET.number (target_workflow_target o) ∷
    optional_bytes IDEMPOTENT_REQUEST_TARGET.number (target_idempotent_request_target o) ∷ []

abbrev pub InvocationTargetFits : ℕ → Option InvocationTarget → Type 0
InvocationTargetFits levels None = Unit {0}
InvocationTargetFits levels (Some (targets.InvocationId x)) = IsUtf8 x
InvocationTargetFits levels (Some (targets.WorkflowTarget w)) = WorkflowTargetFits levels w
InvocationTargetFits levels (Some (targets.IdempotentRequestTarget x)) = IdempotentRequestTargetFits levels x
