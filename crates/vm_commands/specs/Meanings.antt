-- Each record of a command that calls make means its requests.
use Rattle.std.specs.Prelude.{Some, refl}
use Rattle.std.specs.Option.{is_some}
use Rattle.std.proofs.Common.{ap}
use Rattle.protocol_table.specs.declared.table.RecordType.TheVariants as records
use Rattle.protocol_types.specs.declared.message_type.MessageType.TheVariants as types
use Rattle.protocol_records.specs.declared.output_command.OutputCommandMessage.{OutputCommandMessage}
use Rattle.protocol_commands.specs.declared.get_eager_state_command.GetEagerStateCommandMessage.{GetEagerStateCommandMessage}
use Rattle.protocol_commands.specs.declared.get_eager_state_keys_command.GetEagerStateKeysCommandMessage.{GetEagerStateKeysCommandMessage}
use Rattle.protocol_commands.specs.declared.set_state_command.SetStateCommandMessage.{SetStateCommandMessage}
use Rattle.protocol_commands.specs.declared.complete_promise_command.CompletePromiseCommandMessage.{CompletePromiseCommandMessage}
use Rattle.protocol_calls.specs.declared.send_signal_command.SendSignalCommandMessage.{SendSignalCommandMessage}
use Rattle.protocol_calls.specs.declared.attach_invocation_command.AttachInvocationCommandMessage.{AttachInvocationCommandMessage}
use Rattle.protocol_calls.specs.declared.get_invocation_output_command.GetInvocationOutputCommandMessage.{GetInvocationOutputCommandMessage}
use Rattle.protocol_calls.specs.declared.complete_awakeable_command.CompleteAwakeableCommandMessage.{CompleteAwakeableCommandMessage}
use Rattle.protocol_records.specs.OutputCommand.{output_command_of, output_command_parts}
use Rattle.protocol_commands.specs.Fields.{get_lazy_state_command_of, get_lazy_state_command_parts, get_lazy_state_keys_command_of, get_lazy_state_keys_command_parts, get_eager_state_keys_command_of, get_eager_state_keys_command_parts, set_state_command_of, set_state_command_parts, clear_state_command_of, clear_state_command_parts, clear_all_state_command_of, clear_all_state_command_parts, get_promise_command_of, get_promise_command_parts, peek_promise_command_of, peek_promise_command_parts, run_command_of, run_command_parts}
use Rattle.protocol_commands.specs.GetEagerStateCommand.{get_eager_state_command_of, get_eager_state_command_parts}
use Rattle.protocol_commands.specs.CompletePromiseCommand.{complete_promise_command_of, complete_promise_command_parts}
use Rattle.protocol_records.specs.SleepCommand.{sleep_command_of, sleep_command_parts}
use Rattle.protocol_calls.specs.Fields.{call_command_of, call_command_parts, one_way_call_command_of, one_way_call_command_parts}
use Rattle.protocol_calls.specs.SendSignalCommand.{send_signal_command_of, send_signal_command_parts}
use Rattle.protocol_calls.specs.AttachInvocationCommand.{attach_invocation_command_of, attach_invocation_command_parts}
use Rattle.protocol_calls.specs.GetInvocationOutputCommand.{get_invocation_output_command_of, get_invocation_output_command_parts}
use Rattle.protocol_calls.specs.CompleteAwakeableCommand.{complete_awakeable_command_of, complete_awakeable_command_parts}
use Rattle.protocol_equality.specs.Commands.{same_output_command, erased_output_command, output_command_tells, same_sleep_command, erased_sleep_command, sleep_command_tells, same_get_lazy_state_command, erased_get_lazy_state_command, get_lazy_state_command_tells, same_get_eager_state_command, erased_get_eager_state_command, get_eager_state_command_tells, same_get_lazy_state_keys_command, erased_get_lazy_state_keys_command, get_lazy_state_keys_command_tells, same_get_eager_state_keys_command, erased_get_eager_state_keys_command, get_eager_state_keys_command_tells, same_set_state_command, erased_set_state_command, set_state_command_tells, same_clear_state_command, erased_clear_state_command, clear_state_command_tells, same_clear_all_state_command, erased_clear_all_state_command, clear_all_state_command_tells, same_get_promise_command, erased_get_promise_command, get_promise_command_tells, same_peek_promise_command, erased_peek_promise_command, peek_promise_command_tells, same_complete_promise_command, erased_complete_promise_command, complete_promise_command_tells, same_run_command, erased_run_command, run_command_tells, same_send_signal_command, erased_send_signal_command, send_signal_command_tells, same_attach_invocation_command, erased_attach_invocation_command, attach_invocation_command_tells, same_get_invocation_output_command, erased_get_invocation_output_command, get_invocation_output_command_tells, same_complete_awakeable_command, erased_complete_awakeable_command, complete_awakeable_command_tells}
use Rattle.protocol_equality.specs.Calls.{same_call_command, erased_call_command, call_command_tells, same_one_way_call_command, erased_one_way_call_command, one_way_call_command_tells}
use Rattle.protocol_equality.specs.Payloads.{erased_output_result, erased_state_result, erased_value, erased_completion, erased_awakeable_result}
use Rattle.protocol_laws.specs.Commands.{CommandRecord}
use Rattle.protocol_laws.specs.Requests.{request_of_output, request_of_get_lazy_state, request_of_get_eager_state, request_of_get_lazy_state_keys, request_of_get_eager_state_keys, request_of_set_state, request_of_clear_state, request_of_clear_all_state, request_of_get_promise, request_of_peek_promise, request_of_complete_promise, request_of_sleep, request_of_call, request_of_one_way_call, request_of_send_signal, request_of_run, request_of_attach_invocation, request_of_get_invocation_output, request_of_complete_awakeable}
use Rattle.vm_commands.specs.RecordMeanings.{MeansRequests, means, as_present}

pub output_means : MeansRequests records.OutputCommand output_command_of output_command_parts erased_output_command request_of_output
output_means =
    means CommandRecord.Output types.OutputCommand same_output_command output_command_tells refl (λ payload. refl) (λ one. refl) (λ one. refl) (λ one. refl) (λ ignoring x y. refl)
    (λ ignoring x y h. as_present (erased_output_result ignoring) _ _ x.result y.result (ap (λ (one : OutputCommandMessage). one.result) h))

pub get_lazy_state_means : MeansRequests records.GetLazyStateCommand get_lazy_state_command_of get_lazy_state_command_parts erased_get_lazy_state_command (λ one. Some (request_of_get_lazy_state one))
get_lazy_state_means =
    means CommandRecord.GetLazyState types.GetLazyStateCommand same_get_lazy_state_command get_lazy_state_command_tells refl (λ payload. refl) (λ one. refl) (λ one. refl) (λ one. refl) (λ ignoring x y. refl)
    (λ ignoring x y h. refl)

pub get_eager_state_means : MeansRequests records.GetEagerStateCommand get_eager_state_command_of get_eager_state_command_parts erased_get_eager_state_command request_of_get_eager_state
get_eager_state_means =
    means CommandRecord.GetEagerState types.GetEagerStateCommand same_get_eager_state_command get_eager_state_command_tells refl (λ payload. refl) (λ one. refl) (λ one. refl) (λ one. refl) (λ ignoring x y. refl)
    (λ ignoring x y h. as_present (erased_state_result ignoring) _ _ x.result y.result (ap (λ (one : GetEagerStateCommandMessage). one.result) h))

pub get_lazy_state_keys_means : MeansRequests records.GetLazyStateKeysCommand get_lazy_state_keys_command_of get_lazy_state_keys_command_parts erased_get_lazy_state_keys_command (λ one. Some (request_of_get_lazy_state_keys one))
get_lazy_state_keys_means =
    means CommandRecord.GetLazyStateKeys types.GetLazyStateKeysCommand same_get_lazy_state_keys_command get_lazy_state_keys_command_tells refl (λ payload. refl) (λ one. refl) (λ one. refl) (λ one. refl) (λ ignoring x y. refl)
    (λ ignoring x y h. refl)

pub get_eager_state_keys_means : MeansRequests records.GetEagerStateKeysCommand get_eager_state_keys_command_of get_eager_state_keys_command_parts erased_get_eager_state_keys_command request_of_get_eager_state_keys
get_eager_state_keys_means =
    means CommandRecord.GetEagerStateKeys types.GetEagerStateKeysCommand same_get_eager_state_keys_command get_eager_state_keys_command_tells refl (λ payload. refl) (λ one. refl) (λ one. refl) (λ one. refl) (λ ignoring x y. refl)
    (λ ignoring x y h. ap (λ (one : GetEagerStateKeysCommandMessage). is_some (request_of_get_eager_state_keys one)) h)

pub set_state_means : MeansRequests records.SetStateCommand set_state_command_of set_state_command_parts erased_set_state_command request_of_set_state
set_state_means =
    means CommandRecord.SetState types.SetStateCommand same_set_state_command set_state_command_tells refl (λ payload. refl) (λ one. refl) (λ one. refl) (λ one. refl) (λ ignoring x y. refl)
    (λ ignoring x y h. as_present (erased_value ignoring) _ _ x.value y.value (ap (λ (one : SetStateCommandMessage). one.value) h))

pub clear_state_means : MeansRequests records.ClearStateCommand clear_state_command_of clear_state_command_parts erased_clear_state_command (λ one. Some (request_of_clear_state one))
clear_state_means =
    means CommandRecord.ClearState types.ClearStateCommand same_clear_state_command clear_state_command_tells refl (λ payload. refl) (λ one. refl) (λ one. refl) (λ one. refl) (λ ignoring x y. refl)
    (λ ignoring x y h. refl)

pub clear_all_state_means : MeansRequests records.ClearAllStateCommand clear_all_state_command_of clear_all_state_command_parts erased_clear_all_state_command (λ one. Some (request_of_clear_all_state one))
clear_all_state_means =
    means CommandRecord.ClearAllState types.ClearAllStateCommand same_clear_all_state_command clear_all_state_command_tells refl (λ payload. refl) (λ one. refl) (λ one. refl) (λ one. refl) (λ ignoring x y. refl)
    (λ ignoring x y h. refl)

pub get_promise_means : MeansRequests records.GetPromiseCommand get_promise_command_of get_promise_command_parts erased_get_promise_command (λ one. Some (request_of_get_promise one))
get_promise_means =
    means CommandRecord.GetPromise types.GetPromiseCommand same_get_promise_command get_promise_command_tells refl (λ payload. refl) (λ one. refl) (λ one. refl) (λ one. refl) (λ ignoring x y. refl)
    (λ ignoring x y h. refl)

pub peek_promise_means : MeansRequests records.PeekPromiseCommand peek_promise_command_of peek_promise_command_parts erased_peek_promise_command (λ one. Some (request_of_peek_promise one))
peek_promise_means =
    means CommandRecord.PeekPromise types.PeekPromiseCommand same_peek_promise_command peek_promise_command_tells refl (λ payload. refl) (λ one. refl) (λ one. refl) (λ one. refl) (λ ignoring x y. refl)
    (λ ignoring x y h. refl)

pub complete_promise_means : MeansRequests records.CompletePromiseCommand complete_promise_command_of complete_promise_command_parts erased_complete_promise_command request_of_complete_promise
complete_promise_means =
    means CommandRecord.CompletePromise types.CompletePromiseCommand same_complete_promise_command complete_promise_command_tells refl (λ payload. refl) (λ one. refl) (λ one. refl) (λ one. refl) (λ ignoring x y. refl)
    (λ ignoring x y h. as_present (erased_completion ignoring) _ _ x.completion y.completion (ap (λ (one : CompletePromiseCommandMessage). one.completion) h))

pub sleep_means : MeansRequests records.SleepCommand sleep_command_of sleep_command_parts erased_sleep_command (λ one. Some (request_of_sleep one))
sleep_means =
    means CommandRecord.Sleep types.SleepCommand same_sleep_command sleep_command_tells refl (λ payload. refl) (λ one. refl) (λ one. refl) (λ one. refl) (λ ignoring x y. refl)
    (λ ignoring x y h. refl)

pub call_means : MeansRequests records.CallCommand call_command_of call_command_parts erased_call_command (λ one. Some (request_of_call one))
call_means =
    means CommandRecord.CallService types.CallCommand same_call_command call_command_tells refl (λ payload. refl) (λ one. refl) (λ one. refl) (λ one. refl) (λ ignoring x y. refl)
    (λ ignoring x y h. refl)

pub one_way_call_means : MeansRequests records.OneWayCallCommand one_way_call_command_of one_way_call_command_parts erased_one_way_call_command (λ one. Some (request_of_one_way_call one))
one_way_call_means =
    means CommandRecord.OneWayCall types.OneWayCallCommand same_one_way_call_command one_way_call_command_tells refl (λ payload. refl) (λ one. refl) (λ one. refl) (λ one. refl) (λ ignoring x y. refl)
    (λ ignoring x y h. refl)

pub send_signal_means : MeansRequests records.SendSignalCommand send_signal_command_of send_signal_command_parts erased_send_signal_command request_of_send_signal
send_signal_means =
    means CommandRecord.SendSignal types.SendSignalCommand same_send_signal_command send_signal_command_tells refl (λ payload. refl) (λ one. refl) (λ one. refl) (λ one. refl) (λ ignoring x y. refl)
    (λ ignoring x y h. ap (λ (one : SendSignalCommandMessage). is_some (request_of_send_signal one)) h)

pub run_means : MeansRequests records.RunCommand run_command_of run_command_parts erased_run_command (λ one. Some (request_of_run one))
run_means =
    means CommandRecord.Run types.RunCommand same_run_command run_command_tells refl (λ payload. refl) (λ one. refl) (λ one. refl) (λ one. refl) (λ ignoring x y. refl)
    (λ ignoring x y h. refl)

pub attach_invocation_means : MeansRequests records.AttachInvocationCommand attach_invocation_command_of attach_invocation_command_parts erased_attach_invocation_command request_of_attach_invocation
attach_invocation_means =
    means CommandRecord.AttachInvocation types.AttachInvocationCommand same_attach_invocation_command attach_invocation_command_tells refl (λ payload. refl) (λ one. refl) (λ one. refl) (λ one. refl) (λ ignoring x y. refl)
    (λ ignoring x y h. ap (λ (one : AttachInvocationCommandMessage). is_some (request_of_attach_invocation one)) h)

pub get_invocation_output_means : MeansRequests records.GetInvocationOutputCommand get_invocation_output_command_of get_invocation_output_command_parts erased_get_invocation_output_command request_of_get_invocation_output
get_invocation_output_means =
    means CommandRecord.GetInvocationOutput types.GetInvocationOutputCommand same_get_invocation_output_command get_invocation_output_command_tells refl (λ payload. refl) (λ one. refl) (λ one. refl) (λ one. refl) (λ ignoring x y. refl)
    (λ ignoring x y h. ap (λ (one : GetInvocationOutputCommandMessage). is_some (request_of_get_invocation_output one)) h)

pub complete_awakeable_means : MeansRequests records.CompleteAwakeableCommand complete_awakeable_command_of complete_awakeable_command_parts erased_complete_awakeable_command request_of_complete_awakeable
complete_awakeable_means =
    means CommandRecord.CompleteAwakeable types.CompleteAwakeableCommand same_complete_awakeable_command complete_awakeable_command_tells refl (λ payload. refl) (λ one. refl) (λ one. refl) (λ one. refl) (λ ignoring x y. refl)
    (λ ignoring x y h. as_present (erased_awakeable_result ignoring) _ _ x.result y.result (ap (λ (one : CompleteAwakeableCommandMessage). one.result) h))
