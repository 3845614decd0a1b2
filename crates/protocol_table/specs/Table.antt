-- The fields of each record.
use Rattle.std.specs.Prelude.{ℕ, List, [], ◌∷◌, Option, Some, None, ◌==◌, if◌then◌else◌}
use Rattle.protocol_table.specs.declared.table.RecordType.{RecordType}
use Rattle.protocol_table.specs.declared.table.RecordType.TheVariants as types
use Rattle.protocol_table.specs.declared.table.Kind.{Kind}
use Rattle.protocol_table.specs.declared.table.FieldDescriptor.{FieldDescriptor}
use Rattle.protocol_table.specs.declared.table.attach_invocation_command.TheConstants as attach_invocation_command
use Rattle.protocol_table.specs.declared.table.awaiting_on.TheConstants as awaiting_on
use Rattle.protocol_table.specs.declared.table.call_command.TheConstants as call_command
use Rattle.protocol_table.specs.declared.table.clear_all_state_command.TheConstants as clear_all_state_command
use Rattle.protocol_table.specs.declared.table.clear_state_command.TheConstants as clear_state_command
use Rattle.protocol_table.specs.declared.table.complete_awakeable_command.TheConstants as complete_awakeable_command
use Rattle.protocol_table.specs.declared.table.complete_promise_command.TheConstants as complete_promise_command
use Rattle.protocol_table.specs.declared.table.error.TheConstants as error
use Rattle.protocol_table.specs.declared.table.failure.TheConstants as failure
use Rattle.protocol_table.specs.declared.table.failure_metadata.TheConstants as failure_metadata
use Rattle.protocol_table.specs.declared.table.future.TheConstants as future
use Rattle.protocol_table.specs.declared.table.get_eager_state_command.TheConstants as get_eager_state_command
use Rattle.protocol_table.specs.declared.table.get_eager_state_keys_command.TheConstants as get_eager_state_keys_command
use Rattle.protocol_table.specs.declared.table.get_invocation_output_command.TheConstants as get_invocation_output_command
use Rattle.protocol_table.specs.declared.table.get_lazy_state_command.TheConstants as get_lazy_state_command
use Rattle.protocol_table.specs.declared.table.get_lazy_state_keys_command.TheConstants as get_lazy_state_keys_command
use Rattle.protocol_table.specs.declared.table.get_promise_command.TheConstants as get_promise_command
use Rattle.protocol_table.specs.declared.table.get_state_ephemeral_command.TheConstants as get_state_ephemeral_command
use Rattle.protocol_table.specs.declared.table.get_state_ephemeral_notification.TheConstants as get_state_ephemeral_notification
use Rattle.protocol_table.specs.declared.table.header.TheConstants as header
use Rattle.protocol_table.specs.declared.table.idempotent_request_target.TheConstants as idempotent_request_target
use Rattle.protocol_table.specs.declared.table.input_command.TheConstants as input_command
use Rattle.protocol_table.specs.declared.table.notification.TheConstants as notification
use Rattle.protocol_table.specs.declared.table.one_way_call_command.TheConstants as one_way_call_command
use Rattle.protocol_table.specs.declared.table.output_command.TheConstants as output_command
use Rattle.protocol_table.specs.declared.table.peek_promise_command.TheConstants as peek_promise_command
use Rattle.protocol_table.specs.declared.table.propose_run_completion.TheConstants as propose_run_completion
use Rattle.protocol_table.specs.declared.table.propose_run_completion_ack.TheConstants as propose_run_completion_ack
use Rattle.protocol_table.specs.declared.table.run_command.TheConstants as run_command
use Rattle.protocol_table.specs.declared.table.send_signal_command.TheConstants as send_signal_command
use Rattle.protocol_table.specs.declared.table.set_state_command.TheConstants as set_state_command
use Rattle.protocol_table.specs.declared.table.sleep_command.TheConstants as sleep_command
use Rattle.protocol_table.specs.declared.table.start.TheConstants as start
use Rattle.protocol_table.specs.declared.table.state_entry.TheConstants as state_entry
use Rattle.protocol_table.specs.declared.table.state_keys.TheConstants as state_keys
use Rattle.protocol_table.specs.declared.table.suspension.TheConstants as suspension
use Rattle.protocol_table.specs.declared.table.suspension_v6.TheConstants as suspension_v6
use Rattle.protocol_table.specs.declared.table.value.TheConstants as value
use Rattle.protocol_table.specs.declared.table.workflow_target.TheConstants as workflow_target

abbrev pub descriptors_of : RecordType → List FieldDescriptor
descriptors_of types.AttachInvocationCommand = attach_invocation_command.FIELDS
descriptors_of types.AwaitingOn = awaiting_on.FIELDS
descriptors_of types.CallCommand = call_command.FIELDS
descriptors_of types.ClearAllStateCommand = clear_all_state_command.FIELDS
descriptors_of types.ClearStateCommand = clear_state_command.FIELDS
descriptors_of types.CompleteAwakeableCommand = complete_awakeable_command.FIELDS
descriptors_of types.CompletePromiseCommand = complete_promise_command.FIELDS
descriptors_of types.End = []
descriptors_of types.Error = error.FIELDS
descriptors_of types.Failure = failure.FIELDS
descriptors_of types.FailureMetadata = failure_metadata.FIELDS
descriptors_of types.Future = future.FIELDS
descriptors_of types.GetEagerStateCommand = get_eager_state_command.FIELDS
descriptors_of types.GetEagerStateKeysCommand = get_eager_state_keys_command.FIELDS
descriptors_of types.GetInvocationOutputCommand = get_invocation_output_command.FIELDS
descriptors_of types.GetLazyStateCommand = get_lazy_state_command.FIELDS
descriptors_of types.GetLazyStateKeysCommand = get_lazy_state_keys_command.FIELDS
descriptors_of types.GetPromiseCommand = get_promise_command.FIELDS
descriptors_of types.GetStateEphemeralCommand = get_state_ephemeral_command.FIELDS
descriptors_of types.GetStateEphemeralNotification = get_state_ephemeral_notification.FIELDS
descriptors_of types.Header = header.FIELDS
descriptors_of types.IdempotentRequestTarget = idempotent_request_target.FIELDS
descriptors_of types.InputCommand = input_command.FIELDS
descriptors_of types.Notification = notification.FIELDS
descriptors_of types.OneWayCallCommand = one_way_call_command.FIELDS
descriptors_of types.OutputCommand = output_command.FIELDS
descriptors_of types.PeekPromiseCommand = peek_promise_command.FIELDS
descriptors_of types.ProposeRunCompletion = propose_run_completion.FIELDS
descriptors_of types.ProposeRunCompletionAck = propose_run_completion_ack.FIELDS
descriptors_of types.RunCommand = run_command.FIELDS
descriptors_of types.SendSignalCommand = send_signal_command.FIELDS
descriptors_of types.SetStateCommand = set_state_command.FIELDS
descriptors_of types.SleepCommand = sleep_command.FIELDS
descriptors_of types.Start = start.FIELDS
descriptors_of types.StateEntry = state_entry.FIELDS
descriptors_of types.StateKeys = state_keys.FIELDS
descriptors_of types.Suspension = suspension.FIELDS
descriptors_of types.SuspensionV6 = suspension_v6.FIELDS
descriptors_of types.Value = value.FIELDS
descriptors_of types.Void = []
descriptors_of types.WorkflowTarget = workflow_target.FIELDS

abbrev pub kind_in : List FieldDescriptor → ℕ → Option Kind
kind_in [] number = None
kind_in (f ∷ fields) number = if f.number == number then Some f.kind else kind_in fields number
