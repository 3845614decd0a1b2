-- Recorded frames that are requests are of their types.
use Rattle.std.proofs.Common.{◌≡◌, ℕ, List, Option, Some, None, option_map, option_and_then, refl, ap, sym, ◌∙◌}
use Rattle.protocol_table.specs.declared.table.RecordType.{RecordType}
use Rattle.protocol_wire.specs.Wire.{Field}
use Rattle.protocol_wire.specs.Fields.{fields}
use Rattle.protocol_wire.specs.Check.{payload_fault}
use Rattle.protocol_wire.specs.declared.check.Fault.{Fault}
use Rattle.protocol_wire.specs.declared.record.TheConstants.{LEVELS}
use Rattle.journal_model.specs.Request.{Request}
use Rattle.journal_model.specs.Spelling.{request_type}
use Rattle.protocol_types.specs.declared.message_type.MessageType.{MessageType}
use Rattle.protocol_types.specs.declared.message_type.MessageType.TheVariants as types
use Rattle.protocol_table.specs.declared.table.RecordType.TheVariants as records
use Rattle.protocol_stream.specs.Header.{message_type}
use Rattle.protocol_records.specs.SleepCommand.{sleep_command_of}
use Rattle.protocol_records.specs.OutputCommand.{output_command_of}
use Rattle.protocol_commands.specs.Fields.{get_lazy_state_command_of, get_lazy_state_keys_command_of, get_eager_state_keys_command_of, set_state_command_of, clear_state_command_of, clear_all_state_command_of, get_promise_command_of, peek_promise_command_of, run_command_of}
use Rattle.protocol_commands.specs.GetEagerStateCommand.{get_eager_state_command_of}
use Rattle.protocol_commands.specs.CompletePromiseCommand.{complete_promise_command_of}
use Rattle.protocol_calls.specs.Fields.{call_command_of, one_way_call_command_of}
use Rattle.protocol_calls.specs.SendSignalCommand.{send_signal_command_of}
use Rattle.protocol_calls.specs.AttachInvocationCommand.{attach_invocation_command_of}
use Rattle.protocol_calls.specs.GetInvocationOutputCommand.{get_invocation_output_command_of}
use Rattle.protocol_calls.specs.CompleteAwakeableCommand.{complete_awakeable_command_of}
use Rattle.protocol_laws.specs.Requests.{request_of_output, request_of_get_lazy_state, request_of_get_eager_state, request_of_get_lazy_state_keys, request_of_get_eager_state_keys, request_of_set_state, request_of_clear_state, request_of_clear_all_state, request_of_get_promise, request_of_peek_promise, request_of_complete_promise, request_of_sleep, request_of_call, request_of_one_way_call, request_of_send_signal, request_of_run, request_of_attach_invocation, request_of_get_invocation_output, request_of_complete_awakeable}
use Rattle.vm_commands.specs.RecordedCommands.{unless_wrong, request_read, command_by, KeepsTypes, ReadsAsRecorded}

-- a request, where there is one, is of this type
abbrev IsOfType : MessageType → Option Request → Type 0
IsOfType ty found = (request : Request) → found ≡ Some request → request_type request ≡ ty

unless_wrong_is : (ty : MessageType) (fault : Option Fault) (found : Option Request) → IsOfType ty found → IsOfType ty (unless_wrong fault found)
unless_wrong_is ty None found is request h = is request h
unless_wrong_is ty (Some fault) found is request h = cc

read_is : {R : Type 0} (ty : MessageType) (t : RecordType) (of : ℕ → List Field → R) (request_of : R → Option Request) (payload : List ℕ)
    → ((one : R) → IsOfType ty (request_of one)) → IsOfType ty (request_read t of request_of payload)
read_is ty t of request_of payload is = unless_wrong_is ty (payload_fault LEVELS t payload) (request_of (of LEVELS (fields payload))) (is (of LEVELS (fields payload)))

some_is : (ty : MessageType) (found : Request) → request_type found ≡ ty → IsOfType ty (Some found)
some_is ty found is request h = ap request_type (sym (ap or_found h)) ∙ is
  where
    or_found : Option Request → Request
    or_found None = found
    or_found (Some other) = other

map_is : {A : Type 0} (ty : MessageType) (f : A → Request) (value : Option A) → ((a : A) → request_type (f a) ≡ ty) → IsOfType ty (option_map f value)
map_is ty f None is request h = cc
map_is ty f (Some a) is request h = some_is ty (f a) (is a) request h

then_is : {A : Type 0} (ty : MessageType) (f : A → Option Request) (value : Option A) → ((a : A) → IsOfType ty (f a)) → IsOfType ty (option_and_then f value)
then_is ty f None is request h = cc
then_is ty f (Some a) is request h = is a request h

by_type : (ty : MessageType) (payload : List ℕ) → IsOfType ty (command_by ty payload)
by_type types.OutputCommand payload = read_is types.OutputCommand records.OutputCommand output_command_of request_of_output payload (λ one. map_is types.OutputCommand _ one.result (λ held. refl))
by_type types.GetLazyStateCommand payload = read_is types.GetLazyStateCommand records.GetLazyStateCommand get_lazy_state_command_of (λ one. Some (request_of_get_lazy_state one)) payload (λ one. some_is types.GetLazyStateCommand (request_of_get_lazy_state one) refl)
by_type types.GetEagerStateCommand payload = read_is types.GetEagerStateCommand records.GetEagerStateCommand get_eager_state_command_of request_of_get_eager_state payload (λ one. map_is types.GetEagerStateCommand _ one.result (λ held. refl))
by_type types.GetLazyStateKeysCommand payload = read_is types.GetLazyStateKeysCommand records.GetLazyStateKeysCommand get_lazy_state_keys_command_of (λ one. Some (request_of_get_lazy_state_keys one)) payload (λ one. some_is types.GetLazyStateKeysCommand (request_of_get_lazy_state_keys one) refl)
by_type types.GetEagerStateKeysCommand payload = read_is types.GetEagerStateKeysCommand records.GetEagerStateKeysCommand get_eager_state_keys_command_of request_of_get_eager_state_keys payload (λ one. map_is types.GetEagerStateKeysCommand _ one.value (λ held. refl))
by_type types.SetStateCommand payload = read_is types.SetStateCommand records.SetStateCommand set_state_command_of request_of_set_state payload (λ one. map_is types.SetStateCommand _ one.value (λ held. refl))
by_type types.ClearStateCommand payload = read_is types.ClearStateCommand records.ClearStateCommand clear_state_command_of (λ one. Some (request_of_clear_state one)) payload (λ one. some_is types.ClearStateCommand (request_of_clear_state one) refl)
by_type types.ClearAllStateCommand payload = read_is types.ClearAllStateCommand records.ClearAllStateCommand clear_all_state_command_of (λ one. Some (request_of_clear_all_state one)) payload (λ one. some_is types.ClearAllStateCommand (request_of_clear_all_state one) refl)
by_type types.GetPromiseCommand payload = read_is types.GetPromiseCommand records.GetPromiseCommand get_promise_command_of (λ one. Some (request_of_get_promise one)) payload (λ one. some_is types.GetPromiseCommand (request_of_get_promise one) refl)
by_type types.PeekPromiseCommand payload = read_is types.PeekPromiseCommand records.PeekPromiseCommand peek_promise_command_of (λ one. Some (request_of_peek_promise one)) payload (λ one. some_is types.PeekPromiseCommand (request_of_peek_promise one) refl)
by_type types.CompletePromiseCommand payload = read_is types.CompletePromiseCommand records.CompletePromiseCommand complete_promise_command_of request_of_complete_promise payload (λ one. map_is types.CompletePromiseCommand _ one.completion (λ held. refl))
by_type types.SleepCommand payload = read_is types.SleepCommand records.SleepCommand sleep_command_of (λ one. Some (request_of_sleep one)) payload (λ one. some_is types.SleepCommand (request_of_sleep one) refl)
by_type types.CallCommand payload = read_is types.CallCommand records.CallCommand call_command_of (λ one. Some (request_of_call one)) payload (λ one. some_is types.CallCommand (request_of_call one) refl)
by_type types.OneWayCallCommand payload = read_is types.OneWayCallCommand records.OneWayCallCommand one_way_call_command_of (λ one. Some (request_of_one_way_call one)) payload (λ one. some_is types.OneWayCallCommand (request_of_one_way_call one) refl)
by_type types.SendSignalCommand payload = read_is types.SendSignalCommand records.SendSignalCommand send_signal_command_of request_of_send_signal payload (λ one. then_is types.SendSignalCommand _ one.signal_id (λ key. map_is types.SendSignalCommand _ one.result (λ value. refl)))
by_type types.RunCommand payload = read_is types.RunCommand records.RunCommand run_command_of (λ one. Some (request_of_run one)) payload (λ one. some_is types.RunCommand (request_of_run one) refl)
by_type types.AttachInvocationCommand payload = read_is types.AttachInvocationCommand records.AttachInvocationCommand attach_invocation_command_of request_of_attach_invocation payload (λ one. map_is types.AttachInvocationCommand _ one.target (λ held. refl))
by_type types.GetInvocationOutputCommand payload = read_is types.GetInvocationOutputCommand records.GetInvocationOutputCommand get_invocation_output_command_of request_of_get_invocation_output payload (λ one. map_is types.GetInvocationOutputCommand _ one.target (λ held. refl))
by_type types.CompleteAwakeableCommand payload = read_is types.CompleteAwakeableCommand records.CompleteAwakeableCommand complete_awakeable_command_of request_of_complete_awakeable payload (λ one. map_is types.CompleteAwakeableCommand _ one.result (λ held. refl))
by_type _ payload = λ request h. cc

pub keeps_types : KeepsTypes
keeps_types m request h = by_type (message_type m.header) m.payload request h

pub reads_as_recorded : ReadsAsRecorded
reads_as_recorded None left fresh n key name = (refl, refl)
reads_as_recorded (Some (Request.GetEagerState recorded value other)) left fresh n key name = (refl, refl)
reads_as_recorded (Some (Request.GetEagerStateKeys keys other)) left fresh n key name = (refl, refl)
reads_as_recorded (Some _) left fresh n key name = (refl, refl)
