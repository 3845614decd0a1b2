-- The record of a command, whichever it is: that of each request, and its parts.
use Rattle.std.specs.Prelude.{List, Some}
use Rattle.protocol_wire.specs.Parts.{Part}
use Rattle.journal_model.specs.Request.{Request}
use Rattle.protocol_records.specs.declared.output_command.OutputCommandMessage.{OutputCommandMessage}
use Rattle.protocol_commands.specs.declared.get_lazy_state_command.GetLazyStateCommandMessage.{GetLazyStateCommandMessage}
use Rattle.protocol_commands.specs.declared.get_eager_state_command.GetEagerStateCommandMessage.{GetEagerStateCommandMessage}
use Rattle.protocol_commands.specs.declared.get_lazy_state_keys_command.GetLazyStateKeysCommandMessage.{GetLazyStateKeysCommandMessage}
use Rattle.protocol_commands.specs.declared.get_eager_state_keys_command.GetEagerStateKeysCommandMessage.{GetEagerStateKeysCommandMessage}
use Rattle.protocol_commands.specs.declared.set_state_command.SetStateCommandMessage.{SetStateCommandMessage}
use Rattle.protocol_commands.specs.declared.clear_state_command.ClearStateCommandMessage.{ClearStateCommandMessage}
use Rattle.protocol_commands.specs.declared.clear_all_state_command.ClearAllStateCommandMessage.{ClearAllStateCommandMessage}
use Rattle.protocol_commands.specs.declared.get_promise_command.GetPromiseCommandMessage.{GetPromiseCommandMessage}
use Rattle.protocol_commands.specs.declared.peek_promise_command.PeekPromiseCommandMessage.{PeekPromiseCommandMessage}
use Rattle.protocol_commands.specs.declared.complete_promise_command.CompletePromiseCommandMessage.{CompletePromiseCommandMessage}
use Rattle.protocol_records.specs.declared.sleep_command.SleepCommandMessage.{SleepCommandMessage}
use Rattle.protocol_calls.specs.declared.call_command.CallCommandMessage.{CallCommandMessage}
use Rattle.protocol_calls.specs.declared.one_way_call_command.OneWayCallCommandMessage.{OneWayCallCommandMessage}
use Rattle.protocol_calls.specs.declared.send_signal_command.SendSignalCommandMessage.{SendSignalCommandMessage}
use Rattle.protocol_commands.specs.declared.run_command.RunCommandMessage.{RunCommandMessage}
use Rattle.protocol_calls.specs.declared.attach_invocation_command.AttachInvocationCommandMessage.{AttachInvocationCommandMessage}
use Rattle.protocol_calls.specs.declared.get_invocation_output_command.GetInvocationOutputCommandMessage.{GetInvocationOutputCommandMessage}
use Rattle.protocol_calls.specs.declared.complete_awakeable_command.CompleteAwakeableCommandMessage.{CompleteAwakeableCommandMessage}
use Rattle.protocol_stream.specs.Records.{value_record, output_record, sleep_record}
use Rattle.protocol_records.specs.OutputCommand.{output_command_parts}
use Rattle.protocol_records.specs.SleepCommand.{sleep_command_parts}
use Rattle.protocol_commands.specs.Fields.{get_lazy_state_command_parts, get_lazy_state_keys_command_parts, get_eager_state_keys_command_parts, set_state_command_parts, clear_state_command_parts, clear_all_state_command_parts, get_promise_command_parts, peek_promise_command_parts, run_command_parts}
use Rattle.protocol_commands.specs.GetEagerStateCommand.{get_eager_state_command_parts}
use Rattle.protocol_commands.specs.CompletePromiseCommand.{complete_promise_command_parts}
use Rattle.protocol_calls.specs.Fields.{call_command_parts, one_way_call_command_parts}
use Rattle.protocol_calls.specs.SendSignalCommand.{send_signal_command_parts}
use Rattle.protocol_calls.specs.AttachInvocationCommand.{attach_invocation_command_parts}
use Rattle.protocol_calls.specs.GetInvocationOutputCommand.{get_invocation_output_command_parts}
use Rattle.protocol_calls.specs.CompleteAwakeableCommand.{complete_awakeable_command_parts}
use Rattle.protocol_laws.specs.Records.{keys_record, eager_result, promise_completion, call_record, one_way_call_record, signal_id, signal_result, awakeable_result, target_record}

-- the record of a command other than the input
pub data CommandRecord : Type 0 where
  Output : OutputCommandMessage → CommandRecord
  GetLazyState : GetLazyStateCommandMessage → CommandRecord
  GetEagerState : GetEagerStateCommandMessage → CommandRecord
  GetLazyStateKeys : GetLazyStateKeysCommandMessage → CommandRecord
  GetEagerStateKeys : GetEagerStateKeysCommandMessage → CommandRecord
  SetState : SetStateCommandMessage → CommandRecord
  ClearState : ClearStateCommandMessage → CommandRecord
  ClearAllState : ClearAllStateCommandMessage → CommandRecord
  GetPromise : GetPromiseCommandMessage → CommandRecord
  PeekPromise : PeekPromiseCommandMessage → CommandRecord
  CompletePromise : CompletePromiseCommandMessage → CommandRecord
  Sleep : SleepCommandMessage → CommandRecord
  CallService : CallCommandMessage → CommandRecord
  OneWayCall : OneWayCallCommandMessage → CommandRecord
  SendSignal : SendSignalCommandMessage → CommandRecord
  Run : RunCommandMessage → CommandRecord
  AttachInvocation : AttachInvocationCommandMessage → CommandRecord
  GetInvocationOutput : GetInvocationOutputCommandMessage → CommandRecord
  CompleteAwakeable : CompleteAwakeableCommandMessage → CommandRecord

-- the record of a request
abbrev pub command_record : Request → CommandRecord
command_record (Request.Output value name) = Output (output_record value name)
command_record (Request.GetLazyState key n name) = GetLazyState (record { key = key; result_completion_id = n; name = name })
command_record (Request.GetEagerState key value name) = GetEagerState (record { key = key; name = name; result = Some (eager_result value) })
command_record (Request.GetLazyStateKeys n name) = GetLazyStateKeys (record { result_completion_id = n; name = name })
command_record (Request.GetEagerStateKeys keys name) = GetEagerStateKeys (record { name = name; value = Some (keys_record keys) })
command_record (Request.SetState key value name) = SetState (record { key = key; value = Some (value_record value); name = name })
command_record (Request.ClearState key name) = ClearState (record { key = key; name = name })
command_record (Request.ClearAllState name) = ClearAllState (record { name = name })
command_record (Request.GetPromise key n name) = GetPromise (record { key = key; result_completion_id = n; name = name })
command_record (Request.PeekPromise key n name) = PeekPromise (record { key = key; result_completion_id = n; name = name })
command_record (Request.CompletePromise key value n name) = CompletePromise (record { key = key; completion = Some (promise_completion value); result_completion_id = n; name = name })
command_record (Request.Sleep time n name) = Sleep (sleep_record time n name)
command_record (Request.CallService call m n name) = CallService (call_record call m n name)
command_record (Request.OneWayCall call time m name) = OneWayCall (one_way_call_record call time m name)
command_record (Request.SendSignal target key value name) = SendSignal (record { target_invocation_id = target; signal_id = Some (signal_id key); result = Some (signal_result value); entry_name = name })
command_record (Request.Run n name) = Run (record { result_completion_id = n; name = name })
command_record (Request.AttachInvocation target n name) = AttachInvocation (record { target = Some (target_record target); result_completion_id = n; name = name })
command_record (Request.GetInvocationOutput target n name) = GetInvocationOutput (record { target = Some (target_record target); result_completion_id = n; name = name })
command_record (Request.CompleteAwakeable id value name) = CompleteAwakeable (record { awakeable_id = id; result = Some (awakeable_result value); name = name })

-- the parts of such a record
abbrev pub command_parts : CommandRecord → List Part
command_parts (Output one) = output_command_parts one
command_parts (GetLazyState one) = get_lazy_state_command_parts one
command_parts (GetEagerState one) = get_eager_state_command_parts one
command_parts (GetLazyStateKeys one) = get_lazy_state_keys_command_parts one
command_parts (GetEagerStateKeys one) = get_eager_state_keys_command_parts one
command_parts (SetState one) = set_state_command_parts one
command_parts (ClearState one) = clear_state_command_parts one
command_parts (ClearAllState one) = clear_all_state_command_parts one
command_parts (GetPromise one) = get_promise_command_parts one
command_parts (PeekPromise one) = peek_promise_command_parts one
command_parts (CompletePromise one) = complete_promise_command_parts one
command_parts (Sleep one) = sleep_command_parts one
command_parts (CallService one) = call_command_parts one
command_parts (OneWayCall one) = one_way_call_command_parts one
command_parts (SendSignal one) = send_signal_command_parts one
command_parts (Run one) = run_command_parts one
command_parts (AttachInvocation one) = attach_invocation_command_parts one
command_parts (GetInvocationOutput one) = get_invocation_output_command_parts one
command_parts (CompleteAwakeable one) = complete_awakeable_command_parts one
