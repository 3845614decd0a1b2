-- The canonical payload of each command towards another invocation is read again, to the same value.
use Rattle.std.specs.Prelude.{◌-◌, map, refl, ◌≡◌, ℕ, List, [], ◌∷◌, Option, Some, None, IfSome, IsUtf8, option_map, ◌<◌, ◌^◌}
use Rattle.std.specs.List.{AllByRecursion}
use Rattle.std.proofs.Common.{sym, ap, ◌∙◌}
use Rattle.protocol_wire.specs.Check.{payload_fault}
use Rattle.protocol_wire.specs.Parts.{payload_of, bytes_if, optional_bytes, optional_number}
use Rattle.protocol_wire.specs.Selection.{last_run, first_present, last_number, last_bytes, texts}
use Rattle.protocol_table.specs.Table.{descriptors_of}
use Rattle.protocol_table.specs.declared.table.RecordType.TheVariants as types
use Rattle.protocol_table.specs.declared.table.call_command.TheConstants as call_command
use Rattle.protocol_table.specs.declared.table.idempotent_request_target.TheConstants as idempotent_request_target
use Rattle.protocol_table.specs.declared.table.one_way_call_command.TheConstants as one_way_call_command
use Rattle.protocol_table.specs.declared.table.workflow_target.TheConstants as workflow_target
use Rattle.protocol_table.specs.declared.table.attach_invocation_command.TheConstants as attach_invocation_command
use Rattle.protocol_table.specs.declared.table.get_invocation_output_command.TheConstants as get_invocation_output_command
use Rattle.protocol_table.specs.declared.table.send_signal_command.TheConstants as send_signal_command
use Rattle.protocol_table.specs.declared.table.complete_awakeable_command.TheConstants as complete_awakeable_command
use Rattle.protocol_wire.proofs.Holds.{u32_holds, bytes_holds, text_holds, optional_text_holds, records_hold, lengths_fit, each_sound, each_reads_back, u64_holds, Reads, read_back, LengthFits, optional_record_holds, optional_u32_holds}
use Rattle.protocol_wire.proofs.Back.{u32_back, text_back, optional_text_back, records_back, u64_back, optional_record_back, held_among, run-fields_of, optional_u32_back}
use Rattle.protocol_records.specs.Header.{header_of, header_parts, HeaderFits}
use Rattle.protocol_records.specs.ReadBack.{header_reads, failure_reads, value_reads, void_reads}
use Rattle.protocol_records.specs.Failure.{failure_of, failure_parts}
use Rattle.protocol_records.specs.declared.failure.Failure.{Failure}
use Rattle.protocol_records.specs.Value.{value_of, value_parts}
use Rattle.protocol_records.specs.declared.value.Value.{Value}
use Rattle.protocol_records.specs.Void.{void_of, void_parts}
use Rattle.protocol_records.specs.declared.void.Void.{Void}
use Rattle.protocol_calls.specs.Fields.{call_command_of, call_command_parts, CallCommandFits, idempotent_request_target_of, idempotent_request_target_parts, IdempotentRequestTargetFits, one_way_call_command_of, one_way_call_command_parts, OneWayCallCommandFits, workflow_target_of, workflow_target_parts, WorkflowTargetFits}
use Rattle.protocol_calls.specs.declared.invocation_target.InvocationTarget.{InvocationTarget}
use Rattle.protocol_calls.specs.declared.invocation_target.InvocationTarget.TheVariants as targets
use Rattle.protocol_calls.specs.declared.idempotent_request_target.IdempotentRequestTarget.{IdempotentRequestTarget}
use Rattle.protocol_calls.specs.declared.workflow_target.WorkflowTarget.{WorkflowTarget}
use Rattle.protocol_calls.specs.InvocationTarget.{target_in, target_parts, InvocationTargetFits, target_invocation_id, target_workflow_target, target_idempotent_request_target}
use Rattle.protocol_calls.specs.AttachInvocationCommand.{attach_invocation_command_of, attach_invocation_command_parts, AttachInvocationCommandFits}
use Rattle.protocol_calls.specs.GetInvocationOutputCommand.{get_invocation_output_command_of, get_invocation_output_command_parts, GetInvocationOutputCommandFits}
use Rattle.protocol_calls.specs.declared.send_signal_command.SendSignalCommandSignalId.{SendSignalCommandSignalId}
use Rattle.protocol_calls.specs.declared.send_signal_command.SendSignalCommandSignalId.TheVariants as signal_ids
use Rattle.protocol_calls.specs.declared.send_signal_command.SendSignalCommandResult.{SendSignalCommandResult}
use Rattle.protocol_calls.specs.declared.send_signal_command.SendSignalCommandResult.TheVariants as results
use Rattle.protocol_calls.specs.SendSignalCommand.{send_signal_command_of, send_signal_command_parts, SendSignalCommandFits, signal_id_in, signal_id_parts, SendSignalCommandSignalIdFits, signal_id_idx, signal_id_name, result_in, result_parts, SendSignalCommandResultFits, result_void, result_value, result_failure}
use Rattle.protocol_calls.specs.declared.complete_awakeable_command.CompleteAwakeableCommandResult.{CompleteAwakeableCommandResult}
use Rattle.protocol_calls.specs.declared.complete_awakeable_command.CompleteAwakeableCommandResult.TheVariants as awakeable_results
use Rattle.protocol_calls.specs.CompleteAwakeableCommand.{complete_awakeable_command_of, complete_awakeable_command_parts, CompleteAwakeableCommandFits}
use Rattle.protocol_records.specs.Choice.{ChoiceFits, choice_parts, chosen_in, first_spelled, second_spelled}
use Rattle.protocol_records.specs.ChoiceBack.{first_sound, second_sound}
use Rattle.protocol_calls.specs.Choices.{awakeable_choice}

pub call_command_reads : Reads types.CallCommand call_command_of call_command_parts CallCommandFits
call_command_reads levels v h small =
    let ps = call_command_parts v in
    let below = payload_fault (levels - 1) in
    let table = descriptors_of types.CallCommand in
    let lengths = lengths_fit ps small in
    read_back levels types.CallCommand call_command_of ps v h.level small (
      text_holds below table call_command.SERVICE_NAME.number v.service_name (refl, refl) h.service_name,
      (
        text_holds below table call_command.HANDLER_NAME.number v.handler_name (refl, refl) h.handler_name,
        (
          bytes_holds below table call_command.PARAMETER.number v.parameter (refl, refl),
          (
            records_hold below table call_command.HEADERS.number types.Header (map (λ r. payload_of (header_parts r)) v.headers) (refl, refl) (each_sound (levels - 1) types.Header header_of (λ r. payload_of (header_parts r)) (HeaderFits (levels - 1)) (header_reads (levels - 1)) v.headers h.headers lengths.1.1.1.0),
            (
              text_holds below table call_command.KEY.number v.key (refl, refl) h.key,
              (
                optional_text_holds below table call_command.IDEMPOTENCY_KEY.number v.idempotency_key (refl, refl) h.idempotency_key,
                (
                  optional_text_holds below table call_command.SCOPE.number v.scope (refl, refl) h.scope,
                  (
                    optional_text_holds below table call_command.LIMIT_KEY.number v.limit_key (refl, refl) h.limit_key,
                    (
                      u32_holds below table call_command.INVOCATION_ID_NOTIFICATION_IDX.number v.invocation_id_notification_idx (refl, refl) h.invocation_id_notification_idx,
                      (
                        u32_holds below table call_command.RESULT_COMPLETION_ID.number v.result_completion_id (refl, refl) h.result_completion_id,
                        (
                          text_holds below table call_command.NAME.number v.name (refl, refl) h.name,
                          tt,
                        ),
                      ),
                    ),
                  ),
                ),
              ),
            ),
          ),
        ),
      ),
    ) (λ i. record {
      service_name = text_back call_command.SERVICE_NAME.number v.service_name ps refl i;
      handler_name = text_back call_command.HANDLER_NAME.number v.handler_name ps refl i;
      parameter = text_back call_command.PARAMETER.number v.parameter ps refl i;
      headers = records_back (header_of (levels - 1)) (λ r. payload_of (header_parts r)) call_command.HEADERS.number v.headers ps refl (each_reads_back (levels - 1) types.Header header_of (λ r. payload_of (header_parts r)) (HeaderFits (levels - 1)) (header_reads (levels - 1)) v.headers h.headers lengths.1.1.1.0) i;
      key = text_back call_command.KEY.number v.key ps refl i;
      idempotency_key = optional_text_back call_command.IDEMPOTENCY_KEY.number v.idempotency_key ps refl i;
      scope = optional_text_back call_command.SCOPE.number v.scope ps refl i;
      limit_key = optional_text_back call_command.LIMIT_KEY.number v.limit_key ps refl i;
      invocation_id_notification_idx = u32_back call_command.INVOCATION_ID_NOTIFICATION_IDX.number v.invocation_id_notification_idx ps refl h.invocation_id_notification_idx i;
      result_completion_id = u32_back call_command.RESULT_COMPLETION_ID.number v.result_completion_id ps refl h.result_completion_id i;
      name = text_back call_command.NAME.number v.name ps refl i;
    })

pub idempotent_request_target_reads : Reads types.IdempotentRequestTarget idempotent_request_target_of idempotent_request_target_parts IdempotentRequestTargetFits
idempotent_request_target_reads levels v h small =
    let ps = idempotent_request_target_parts v in
    let below = payload_fault (levels - 1) in
    let table = descriptors_of types.IdempotentRequestTarget in
    read_back levels types.IdempotentRequestTarget idempotent_request_target_of ps v h.level small (
      text_holds below table idempotent_request_target.SERVICE_NAME.number v.service_name (refl, refl) h.service_name,
      (
        optional_text_holds below table idempotent_request_target.SERVICE_KEY.number v.service_key (refl, refl) h.service_key,
        (
          text_holds below table idempotent_request_target.HANDLER_NAME.number v.handler_name (refl, refl) h.handler_name,
          (
            text_holds below table idempotent_request_target.IDEMPOTENCY_KEY.number v.idempotency_key (refl, refl) h.idempotency_key,
            (
              optional_text_holds below table idempotent_request_target.SCOPE.number v.scope (refl, refl) h.scope,
              tt,
            ),
          ),
        ),
      ),
    ) (λ i. record {
      service_name = text_back idempotent_request_target.SERVICE_NAME.number v.service_name ps refl i;
      service_key = optional_text_back idempotent_request_target.SERVICE_KEY.number v.service_key ps refl i;
      handler_name = text_back idempotent_request_target.HANDLER_NAME.number v.handler_name ps refl i;
      idempotency_key = text_back idempotent_request_target.IDEMPOTENCY_KEY.number v.idempotency_key ps refl i;
      scope = optional_text_back idempotent_request_target.SCOPE.number v.scope ps refl i;
    })

pub one_way_call_command_reads : Reads types.OneWayCallCommand one_way_call_command_of one_way_call_command_parts OneWayCallCommandFits
one_way_call_command_reads levels v h small =
    let ps = one_way_call_command_parts v in
    let below = payload_fault (levels - 1) in
    let table = descriptors_of types.OneWayCallCommand in
    let lengths = lengths_fit ps small in
    read_back levels types.OneWayCallCommand one_way_call_command_of ps v h.level small (
      text_holds below table one_way_call_command.SERVICE_NAME.number v.service_name (refl, refl) h.service_name,
      (
        text_holds below table one_way_call_command.HANDLER_NAME.number v.handler_name (refl, refl) h.handler_name,
        (
          bytes_holds below table one_way_call_command.PARAMETER.number v.parameter (refl, refl),
          (
            records_hold below table one_way_call_command.HEADERS.number types.Header (map (λ r. payload_of (header_parts r)) v.headers) (refl, refl) (each_sound (levels - 1) types.Header header_of (λ r. payload_of (header_parts r)) (HeaderFits (levels - 1)) (header_reads (levels - 1)) v.headers h.headers lengths.1.1.1.0),
            (
              text_holds below table one_way_call_command.KEY.number v.key (refl, refl) h.key,
              (
                optional_text_holds below table one_way_call_command.IDEMPOTENCY_KEY.number v.idempotency_key (refl, refl) h.idempotency_key,
                (
                  optional_text_holds below table one_way_call_command.SCOPE.number v.scope (refl, refl) h.scope,
                  (
                    optional_text_holds below table one_way_call_command.LIMIT_KEY.number v.limit_key (refl, refl) h.limit_key,
                    (
                      u64_holds below table one_way_call_command.INVOKE_TIME.number v.invoke_time (refl, refl) h.invoke_time,
                      (
                        u32_holds below table one_way_call_command.INVOCATION_ID_NOTIFICATION_IDX.number v.invocation_id_notification_idx (refl, refl) h.invocation_id_notification_idx,
                        (
                          text_holds below table one_way_call_command.NAME.number v.name (refl, refl) h.name,
                          tt,
                        ),
                      ),
                    ),
                  ),
                ),
              ),
            ),
          ),
        ),
      ),
    ) (λ i. record {
      service_name = text_back one_way_call_command.SERVICE_NAME.number v.service_name ps refl i;
      handler_name = text_back one_way_call_command.HANDLER_NAME.number v.handler_name ps refl i;
      parameter = text_back one_way_call_command.PARAMETER.number v.parameter ps refl i;
      headers = records_back (header_of (levels - 1)) (λ r. payload_of (header_parts r)) one_way_call_command.HEADERS.number v.headers ps refl (each_reads_back (levels - 1) types.Header header_of (λ r. payload_of (header_parts r)) (HeaderFits (levels - 1)) (header_reads (levels - 1)) v.headers h.headers lengths.1.1.1.0) i;
      key = text_back one_way_call_command.KEY.number v.key ps refl i;
      idempotency_key = optional_text_back one_way_call_command.IDEMPOTENCY_KEY.number v.idempotency_key ps refl i;
      scope = optional_text_back one_way_call_command.SCOPE.number v.scope ps refl i;
      limit_key = optional_text_back one_way_call_command.LIMIT_KEY.number v.limit_key ps refl i;
      invoke_time = u64_back one_way_call_command.INVOKE_TIME.number v.invoke_time ps refl i;
      invocation_id_notification_idx = u32_back one_way_call_command.INVOCATION_ID_NOTIFICATION_IDX.number v.invocation_id_notification_idx ps refl h.invocation_id_notification_idx i;
      name = text_back one_way_call_command.NAME.number v.name ps refl i;
    })

pub workflow_target_reads : Reads types.WorkflowTarget workflow_target_of workflow_target_parts WorkflowTargetFits
workflow_target_reads levels v h small =
    let ps = workflow_target_parts v in
    let below = payload_fault (levels - 1) in
    let table = descriptors_of types.WorkflowTarget in
    read_back levels types.WorkflowTarget workflow_target_of ps v h.level small (
      text_holds below table workflow_target.WORKFLOW_NAME.number v.workflow_name (refl, refl) h.workflow_name,
      (
        text_holds below table workflow_target.WORKFLOW_KEY.number v.workflow_key (refl, refl) h.workflow_key,
        (
          optional_text_holds below table workflow_target.SCOPE.number v.scope (refl, refl) h.scope,
          tt,
        ),
      ),
    ) (λ i. record {
      workflow_name = text_back workflow_target.WORKFLOW_NAME.number v.workflow_name ps refl i;
      workflow_key = text_back workflow_target.WORKFLOW_KEY.number v.workflow_key ps refl i;
      scope = optional_text_back workflow_target.SCOPE.number v.scope ps refl i;
    })

target_invocation_id_holds : (levels : ℕ) (o : Option InvocationTarget) → InvocationTargetFits levels o → IfSome (target_invocation_id o) IsUtf8
target_invocation_id_holds levels None h = tt
target_invocation_id_holds levels (Some (targets.InvocationId x)) h = h
target_invocation_id_holds levels (Some (targets.WorkflowTarget w)) h = tt
target_invocation_id_holds levels (Some (targets.IdempotentRequestTarget x)) h = tt

target_workflow_target_holds : (levels : ℕ) (o : Option InvocationTarget) → InvocationTargetFits levels o → AllByRecursion LengthFits (bytes_if (target_workflow_target o)) → IfSome (target_workflow_target o) (λ b. payload_fault levels types.WorkflowTarget b ≡ None)
target_workflow_target_holds levels None h k = tt
target_workflow_target_holds levels (Some (targets.InvocationId x)) h k = tt
target_workflow_target_holds levels (Some (targets.WorkflowTarget w)) h k = (workflow_target_reads levels w h k.0).sound
target_workflow_target_holds levels (Some (targets.IdempotentRequestTarget x)) h k = tt

target_idempotent_request_target_holds : (levels : ℕ) (o : Option InvocationTarget) → InvocationTargetFits levels o → AllByRecursion LengthFits (bytes_if (target_idempotent_request_target o)) → IfSome (target_idempotent_request_target o) (λ b. payload_fault levels types.IdempotentRequestTarget b ≡ None)
target_idempotent_request_target_holds levels None h k = tt
target_idempotent_request_target_holds levels (Some (targets.InvocationId x)) h k = tt
target_idempotent_request_target_holds levels (Some (targets.WorkflowTarget w)) h k = tt
target_idempotent_request_target_holds levels (Some (targets.IdempotentRequestTarget x)) h k = (idempotent_request_target_reads levels x h k.0).sound

-- of the fields of the target alone
target_back : (levels : ℕ) (o : Option InvocationTarget) → InvocationTargetFits (levels - 1) o → AllByRecursion LengthFits (bytes_if (target_workflow_target o)) → AllByRecursion LengthFits (bytes_if (target_idempotent_request_target o)) → target_in levels (last_run (held_among attach_invocation_command.TARGET (target_parts o))) ≡ o
unfolding texts last_bytes last_number
target_back levels None h k0 k1 = refl
target_back levels (Some (targets.InvocationId x)) h k0 k1 =
    ap (λ (o : Option (List ℕ)). first_present (option_map (λ x. targets.InvocationId x) o) None) (optional_text_back attach_invocation_command.INVOCATION_ID.number (Some x) (optional_bytes attach_invocation_command.INVOCATION_ID.number (Some x) ∷ []) refl)
target_back levels (Some (targets.WorkflowTarget w)) h k0 k1 =
    ap (λ (o : Option WorkflowTarget). first_present (option_map (λ w. targets.WorkflowTarget w) o) None) (optional_record_back (workflow_target_of (levels - 1)) (λ r. payload_of (workflow_target_parts r)) attach_invocation_command.WORKFLOW_TARGET.number (Some w) (optional_bytes attach_invocation_command.WORKFLOW_TARGET.number (Some (payload_of (workflow_target_parts w))) ∷ []) refl (sym (workflow_target_reads (levels - 1) w h k0.0).value))
target_back levels (Some (targets.IdempotentRequestTarget x)) h k0 k1 =
    ap (λ (o : Option IdempotentRequestTarget). option_map (λ x. targets.IdempotentRequestTarget x) o) (optional_record_back (idempotent_request_target_of (levels - 1)) (λ r. payload_of (idempotent_request_target_parts r)) attach_invocation_command.IDEMPOTENT_REQUEST_TARGET.number (Some x) (optional_bytes attach_invocation_command.IDEMPOTENT_REQUEST_TARGET.number (Some (payload_of (idempotent_request_target_parts x))) ∷ []) refl (sym (idempotent_request_target_reads (levels - 1) x h k1.0).value))

pub attach_invocation_command_reads : Reads types.AttachInvocationCommand attach_invocation_command_of attach_invocation_command_parts AttachInvocationCommandFits
attach_invocation_command_reads levels v h small =
    let ps = attach_invocation_command_parts v in
    let below = payload_fault (levels - 1) in
    let table = descriptors_of types.AttachInvocationCommand in
    let lengths = lengths_fit ps small in
    let target = ap (target_in levels) (run-fields_of attach_invocation_command.TARGET ps) ∙ target_back levels v.target h.target lengths.1.0 lengths.1.1.0 in
    read_back levels types.AttachInvocationCommand attach_invocation_command_of ps v h.level small (
      optional_text_holds below table attach_invocation_command.INVOCATION_ID.number (target_invocation_id v.target) (refl, refl) (target_invocation_id_holds (levels - 1) v.target h.target),
      (
        optional_record_holds below table attach_invocation_command.WORKFLOW_TARGET.number types.WorkflowTarget (target_workflow_target v.target) (refl, refl) (target_workflow_target_holds (levels - 1) v.target h.target lengths.1.0),
        (
          optional_record_holds below table attach_invocation_command.IDEMPOTENT_REQUEST_TARGET.number types.IdempotentRequestTarget (target_idempotent_request_target v.target) (refl, refl) (target_idempotent_request_target_holds (levels - 1) v.target h.target lengths.1.1.0),
          (
            u32_holds below table attach_invocation_command.RESULT_COMPLETION_ID.number v.result_completion_id (refl, refl) h.result_completion_id,
            (
              text_holds below table attach_invocation_command.NAME.number v.name (refl, refl) h.name,
              tt,
            ),
          ),
        ),
      ),
    ) (λ i. record {
      target = target i;
      result_completion_id = u32_back attach_invocation_command.RESULT_COMPLETION_ID.number v.result_completion_id ps refl h.result_completion_id i;
      name = text_back attach_invocation_command.NAME.number v.name ps refl i;
    })

pub get_invocation_output_command_reads : Reads types.GetInvocationOutputCommand get_invocation_output_command_of get_invocation_output_command_parts GetInvocationOutputCommandFits
get_invocation_output_command_reads levels v h small =
    let ps = get_invocation_output_command_parts v in
    let below = payload_fault (levels - 1) in
    let table = descriptors_of types.GetInvocationOutputCommand in
    let lengths = lengths_fit ps small in
    let target = ap (target_in levels) (run-fields_of get_invocation_output_command.TARGET ps) ∙ target_back levels v.target h.target lengths.1.0 lengths.1.1.0 in
    read_back levels types.GetInvocationOutputCommand get_invocation_output_command_of ps v h.level small (
      optional_text_holds below table get_invocation_output_command.INVOCATION_ID.number (target_invocation_id v.target) (refl, refl) (target_invocation_id_holds (levels - 1) v.target h.target),
      (
        optional_record_holds below table get_invocation_output_command.WORKFLOW_TARGET.number types.WorkflowTarget (target_workflow_target v.target) (refl, refl) (target_workflow_target_holds (levels - 1) v.target h.target lengths.1.0),
        (
          optional_record_holds below table get_invocation_output_command.IDEMPOTENT_REQUEST_TARGET.number types.IdempotentRequestTarget (target_idempotent_request_target v.target) (refl, refl) (target_idempotent_request_target_holds (levels - 1) v.target h.target lengths.1.1.0),
          (
            u32_holds below table get_invocation_output_command.RESULT_COMPLETION_ID.number v.result_completion_id (refl, refl) h.result_completion_id,
            (
              text_holds below table get_invocation_output_command.NAME.number v.name (refl, refl) h.name,
              tt,
            ),
          ),
        ),
      ),
    ) (λ i. record {
      target = target i;
      result_completion_id = u32_back get_invocation_output_command.RESULT_COMPLETION_ID.number v.result_completion_id ps refl h.result_completion_id i;
      name = text_back get_invocation_output_command.NAME.number v.name ps refl i;
    })

signal_id_idx_holds : (levels : ℕ) (o : Option SendSignalCommandSignalId) → SendSignalCommandSignalIdFits levels o → IfSome (signal_id_idx o) (λ n. n < 2 ^ 32)
signal_id_idx_holds levels None h = tt
signal_id_idx_holds levels (Some (signal_ids.Idx x)) h = h
signal_id_idx_holds levels (Some (signal_ids.Name n)) h = tt

signal_id_name_holds : (levels : ℕ) (o : Option SendSignalCommandSignalId) → SendSignalCommandSignalIdFits levels o → IfSome (signal_id_name o) IsUtf8
signal_id_name_holds levels None h = tt
signal_id_name_holds levels (Some (signal_ids.Idx x)) h = tt
signal_id_name_holds levels (Some (signal_ids.Name n)) h = h

-- of the fields of the signal id alone
signal_id_back : (levels : ℕ) (o : Option SendSignalCommandSignalId) → SendSignalCommandSignalIdFits (levels - 1) o → signal_id_in levels (last_run (held_among send_signal_command.SIGNAL_ID (signal_id_parts o))) ≡ o
unfolding texts last_bytes last_number
signal_id_back levels None h = refl
signal_id_back levels (Some (signal_ids.Idx x)) h =
    ap (λ (o : Option ℕ). first_present (option_map (λ x. signal_ids.Idx x) o) None) (optional_u32_back send_signal_command.IDX.number (Some x) (optional_number send_signal_command.IDX.number (Some x) ∷ []) refl h)
signal_id_back levels (Some (signal_ids.Name n)) h =
    ap (λ (o : Option (List ℕ)). option_map (λ n. signal_ids.Name n) o) (optional_text_back send_signal_command.NAME.number (Some n) (optional_bytes send_signal_command.NAME.number (Some n) ∷ []) refl)

result_void_holds : (levels : ℕ) (o : Option SendSignalCommandResult) → SendSignalCommandResultFits levels o → AllByRecursion LengthFits (bytes_if (result_void o)) → IfSome (result_void o) (λ b. payload_fault levels types.Void b ≡ None)
result_void_holds levels None h k = tt
result_void_holds levels (Some (results.Void v)) h k = (void_reads levels v h k.0).sound
result_void_holds levels (Some (results.Value v)) h k = tt
result_void_holds levels (Some (results.Failure f)) h k = tt

result_value_holds : (levels : ℕ) (o : Option SendSignalCommandResult) → SendSignalCommandResultFits levels o → AllByRecursion LengthFits (bytes_if (result_value o)) → IfSome (result_value o) (λ b. payload_fault levels types.Value b ≡ None)
result_value_holds levels None h k = tt
result_value_holds levels (Some (results.Void v)) h k = tt
result_value_holds levels (Some (results.Value v)) h k = (value_reads levels v h k.0).sound
result_value_holds levels (Some (results.Failure f)) h k = tt

result_failure_holds : (levels : ℕ) (o : Option SendSignalCommandResult) → SendSignalCommandResultFits levels o → AllByRecursion LengthFits (bytes_if (result_failure o)) → IfSome (result_failure o) (λ b. payload_fault levels types.Failure b ≡ None)
result_failure_holds levels None h k = tt
result_failure_holds levels (Some (results.Void v)) h k = tt
result_failure_holds levels (Some (results.Value v)) h k = tt
result_failure_holds levels (Some (results.Failure f)) h k = (failure_reads levels f h k.0).sound

-- of the fields of the result alone
signal_result_back : (levels : ℕ) (o : Option SendSignalCommandResult) → SendSignalCommandResultFits (levels - 1) o → AllByRecursion LengthFits (bytes_if (result_void o)) → AllByRecursion LengthFits (bytes_if (result_value o)) → AllByRecursion LengthFits (bytes_if (result_failure o)) → result_in levels (last_run (held_among send_signal_command.RESULT (result_parts o))) ≡ o
unfolding texts last_bytes last_number
signal_result_back levels None h k0 k1 k2 = refl
signal_result_back levels (Some (results.Void v)) h k0 k1 k2 =
    ap (λ (o : Option Void). first_present (option_map (λ v. results.Void v) o) None) (optional_record_back (void_of (levels - 1)) (λ r. payload_of (void_parts r)) send_signal_command.VOID.number (Some v) (optional_bytes send_signal_command.VOID.number (Some (payload_of (void_parts v))) ∷ []) refl (sym (void_reads (levels - 1) v h k0.0).value))
signal_result_back levels (Some (results.Value v)) h k0 k1 k2 =
    ap (λ (o : Option Value). first_present (option_map (λ v. results.Value v) o) None) (optional_record_back (value_of (levels - 1)) (λ r. payload_of (value_parts r)) send_signal_command.VALUE.number (Some v) (optional_bytes send_signal_command.VALUE.number (Some (payload_of (value_parts v))) ∷ []) refl (sym (value_reads (levels - 1) v h k1.0).value))
signal_result_back levels (Some (results.Failure f)) h k0 k1 k2 =
    ap (λ (o : Option Failure). option_map (λ f. results.Failure f) o) (optional_record_back (failure_of (levels - 1)) (λ r. payload_of (failure_parts r)) send_signal_command.FAILURE.number (Some f) (optional_bytes send_signal_command.FAILURE.number (Some (payload_of (failure_parts f))) ∷ []) refl (sym (failure_reads (levels - 1) f h k2.0).value))

pub send_signal_command_reads : Reads types.SendSignalCommand send_signal_command_of send_signal_command_parts SendSignalCommandFits
send_signal_command_reads levels v h small =
    let ps = send_signal_command_parts v in
    let below = payload_fault (levels - 1) in
    let table = descriptors_of types.SendSignalCommand in
    let lengths = lengths_fit ps small in
    let signal_id = ap (signal_id_in levels) (run-fields_of send_signal_command.SIGNAL_ID ps) ∙ signal_id_back levels v.signal_id h.signal_id in
    let result = ap (result_in levels) (run-fields_of send_signal_command.RESULT ps) ∙ signal_result_back levels v.result h.result lengths.1.1.1.0 lengths.1.1.1.1.0 lengths.1.1.1.1.1.0 in
    read_back levels types.SendSignalCommand send_signal_command_of ps v h.level small (
      text_holds below table send_signal_command.TARGET_INVOCATION_ID.number v.target_invocation_id (refl, refl) h.target_invocation_id,
      (
        optional_u32_holds below table send_signal_command.IDX.number (signal_id_idx v.signal_id) (refl, refl) (signal_id_idx_holds (levels - 1) v.signal_id h.signal_id),
        (
          optional_text_holds below table send_signal_command.NAME.number (signal_id_name v.signal_id) (refl, refl) (signal_id_name_holds (levels - 1) v.signal_id h.signal_id),
          (
            optional_record_holds below table send_signal_command.VOID.number types.Void (result_void v.result) (refl, refl) (result_void_holds (levels - 1) v.result h.result lengths.1.1.1.0),
            (
              optional_record_holds below table send_signal_command.VALUE.number types.Value (result_value v.result) (refl, refl) (result_value_holds (levels - 1) v.result h.result lengths.1.1.1.1.0),
              (
                optional_record_holds below table send_signal_command.FAILURE.number types.Failure (result_failure v.result) (refl, refl) (result_failure_holds (levels - 1) v.result h.result lengths.1.1.1.1.1.0),
                (
                  text_holds below table send_signal_command.ENTRY_NAME.number v.entry_name (refl, refl) h.entry_name,
                  tt,
                ),
              ),
            ),
          ),
        ),
      ),
    ) (λ i. record {
      target_invocation_id = text_back send_signal_command.TARGET_INVOCATION_ID.number v.target_invocation_id ps refl i;
      signal_id = signal_id i;
      result = result i;
      entry_name = text_back send_signal_command.ENTRY_NAME.number v.entry_name ps refl i;
    })

-- of the fields of the result alone
awakeable_result_back : (levels : ℕ) (o : Option CompleteAwakeableCommandResult) → ChoiceFits awakeable_choice (levels - 1) o → AllByRecursion LengthFits (bytes_if (first_spelled awakeable_choice o)) → AllByRecursion LengthFits (bytes_if (second_spelled awakeable_choice o)) → chosen_in awakeable_choice levels (last_run (held_among complete_awakeable_command.RESULT (choice_parts awakeable_choice o))) ≡ o
unfolding texts last_bytes last_number
awakeable_result_back levels None h k0 k1 = refl
awakeable_result_back levels (Some (awakeable_results.Value v)) h k0 k1 =
    ap (λ (o : Option Value). first_present (option_map (λ v. awakeable_results.Value v) o) None) (optional_record_back (value_of (levels - 1)) (λ r. payload_of (value_parts r)) complete_awakeable_command.VALUE.number (Some v) (optional_bytes complete_awakeable_command.VALUE.number (Some (payload_of (value_parts v))) ∷ []) refl (sym (value_reads (levels - 1) v h k0.0).value))
awakeable_result_back levels (Some (awakeable_results.Failure f)) h k0 k1 =
    ap (λ (o : Option Failure). option_map (λ f. awakeable_results.Failure f) o) (optional_record_back (failure_of (levels - 1)) (λ r. payload_of (failure_parts r)) complete_awakeable_command.FAILURE.number (Some f) (optional_bytes complete_awakeable_command.FAILURE.number (Some (payload_of (failure_parts f))) ∷ []) refl (sym (failure_reads (levels - 1) f h k1.0).value))

pub complete_awakeable_command_reads : Reads types.CompleteAwakeableCommand complete_awakeable_command_of complete_awakeable_command_parts CompleteAwakeableCommandFits
complete_awakeable_command_reads levels v h small =
    let ps = complete_awakeable_command_parts v in
    let below = payload_fault (levels - 1) in
    let table = descriptors_of types.CompleteAwakeableCommand in
    let lengths = lengths_fit ps small in
    let result = ap (chosen_in awakeable_choice levels) (run-fields_of complete_awakeable_command.RESULT ps) ∙ awakeable_result_back levels v.result h.result lengths.1.0 lengths.1.1.0 in
    read_back levels types.CompleteAwakeableCommand complete_awakeable_command_of ps v h.level small (
      text_holds below table complete_awakeable_command.AWAKEABLE_ID.number v.awakeable_id (refl, refl) h.awakeable_id,
      (
        optional_record_holds below table complete_awakeable_command.VALUE.number types.Value (first_spelled awakeable_choice v.result) (refl, refl) (first_sound awakeable_choice (levels - 1) types.Value value_of (value_reads (levels - 1)) v.result h.result lengths.1.0),
        (
          optional_record_holds below table complete_awakeable_command.FAILURE.number types.Failure (second_spelled awakeable_choice v.result) (refl, refl) (second_sound awakeable_choice (levels - 1) types.Failure failure_of (failure_reads (levels - 1)) v.result h.result lengths.1.1.0),
          (
            text_holds below table complete_awakeable_command.NAME.number v.name (refl, refl) h.name,
            tt,
          ),
        ),
      ),
    ) (λ i. record {
      awakeable_id = text_back complete_awakeable_command.AWAKEABLE_ID.number v.awakeable_id ps refl i;
      result = result i;
      name = text_back complete_awakeable_command.NAME.number v.name ps refl i;
    })
