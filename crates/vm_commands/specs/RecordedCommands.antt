-- What recorded frames are as the commands that calls have to match.
use Rattle.std.specs.Prelude.{◌≡◌, ℕ, List, ◌∷◌, map, Option, Some, None}
use Rattle.protocol_table.specs.declared.table.RecordType.{RecordType}
use Rattle.protocol_table.specs.declared.table.RecordType.TheVariants as records
use Rattle.protocol_wire.specs.Wire.{Field}
use Rattle.protocol_wire.specs.Fields.{fields}
use Rattle.protocol_wire.specs.Check.{payload_fault}
use Rattle.protocol_wire.specs.declared.check.Fault.{Fault}
use Rattle.protocol_wire.specs.declared.record.TheConstants.{LEVELS}
use Rattle.journal_model.specs.Notification.{Bytes, Text}
use Rattle.journal_model.specs.Request.{Request}
use Rattle.journal_model.specs.Spelling.{request_type}
use Rattle.attempt_model.specs.Requests.{Commands, read_value, read_keys}
use Rattle.protocol_records.specs.SleepCommand.{sleep_command_of}
use Rattle.protocol_records.specs.OutputCommand.{output_command_of}
use Rattle.protocol_commands.specs.Fields.{get_lazy_state_command_of, get_lazy_state_keys_command_of, get_eager_state_keys_command_of, set_state_command_of, clear_state_command_of, clear_all_state_command_of, get_promise_command_of, peek_promise_command_of, run_command_of}
use Rattle.protocol_commands.specs.GetEagerStateCommand.{get_eager_state_command_of}
use Rattle.protocol_commands.specs.CompletePromiseCommand.{complete_promise_command_of}
use Rattle.protocol_calls.specs.Fields.{call_command_of, one_way_call_command_of}
use Rattle.protocol_calls.specs.SendSignalCommand.{send_signal_command_of}
use Rattle.protocol_calls.specs.AttachInvocationCommand.{attach_invocation_command_of}
use Rattle.protocol_calls.specs.GetInvocationOutputCommand.{get_invocation_output_command_of}
use Rattle.protocol_calls.specs.CompleteAwakeableCommand.{complete_awakeable_command_of}
use Rattle.protocol_types.specs.declared.message_type.MessageType.{MessageType}
use Rattle.protocol_types.specs.declared.message_type.MessageType.TheVariants as types
use Rattle.protocol_stream.specs.declared.decoder.RawMessage.{RawMessage}
use Rattle.protocol_stream.specs.Header.{message_type}
use Rattle.protocol_laws.specs.Requests.{request_of_output, request_of_get_lazy_state, request_of_get_eager_state, request_of_get_lazy_state_keys, request_of_get_eager_state_keys, request_of_set_state, request_of_clear_state, request_of_clear_all_state, request_of_get_promise, request_of_peek_promise, request_of_complete_promise, request_of_sleep, request_of_call, request_of_one_way_call, request_of_send_signal, request_of_run, request_of_attach_invocation, request_of_get_invocation_output, request_of_complete_awakeable}

-- a payload with which something is wrong is no request
abbrev pub unless_wrong : Option Fault → Option Request → Option Request
unless_wrong None request = request
unless_wrong (Some fault) request = None

-- the request of a payload of this record, where nothing is wrong with it and it has what it must have
abbrev pub request_read : {R : Type 0} → RecordType → (ℕ → List Field → R) → (R → Option Request) → List ℕ → Option Request
request_read t of request_of payload = unless_wrong (payload_fault LEVELS t payload) (request_of (of LEVELS (fields payload)))

-- the request of a payload that came in a message of this type; the input, and what is no command, asks for none
abbrev pub command_by : MessageType → List ℕ → Option Request
command_by types.OutputCommand payload = request_read records.OutputCommand output_command_of request_of_output payload
command_by types.GetLazyStateCommand payload = request_read records.GetLazyStateCommand get_lazy_state_command_of (λ one. Some (request_of_get_lazy_state one)) payload
command_by types.GetEagerStateCommand payload = request_read records.GetEagerStateCommand get_eager_state_command_of request_of_get_eager_state payload
command_by types.GetLazyStateKeysCommand payload = request_read records.GetLazyStateKeysCommand get_lazy_state_keys_command_of (λ one. Some (request_of_get_lazy_state_keys one)) payload
command_by types.GetEagerStateKeysCommand payload = request_read records.GetEagerStateKeysCommand get_eager_state_keys_command_of request_of_get_eager_state_keys payload
command_by types.SetStateCommand payload = request_read records.SetStateCommand set_state_command_of request_of_set_state payload
command_by types.ClearStateCommand payload = request_read records.ClearStateCommand clear_state_command_of (λ one. Some (request_of_clear_state one)) payload
command_by types.ClearAllStateCommand payload = request_read records.ClearAllStateCommand clear_all_state_command_of (λ one. Some (request_of_clear_all_state one)) payload
command_by types.GetPromiseCommand payload = request_read records.GetPromiseCommand get_promise_command_of (λ one. Some (request_of_get_promise one)) payload
command_by types.PeekPromiseCommand payload = request_read records.PeekPromiseCommand peek_promise_command_of (λ one. Some (request_of_peek_promise one)) payload
command_by types.CompletePromiseCommand payload = request_read records.CompletePromiseCommand complete_promise_command_of request_of_complete_promise payload
command_by types.SleepCommand payload = request_read records.SleepCommand sleep_command_of (λ one. Some (request_of_sleep one)) payload
command_by types.CallCommand payload = request_read records.CallCommand call_command_of (λ one. Some (request_of_call one)) payload
command_by types.OneWayCallCommand payload = request_read records.OneWayCallCommand one_way_call_command_of (λ one. Some (request_of_one_way_call one)) payload
command_by types.SendSignalCommand payload = request_read records.SendSignalCommand send_signal_command_of request_of_send_signal payload
command_by types.RunCommand payload = request_read records.RunCommand run_command_of (λ one. Some (request_of_run one)) payload
command_by types.AttachInvocationCommand payload = request_read records.AttachInvocationCommand attach_invocation_command_of request_of_attach_invocation payload
command_by types.GetInvocationOutputCommand payload = request_read records.GetInvocationOutputCommand get_invocation_output_command_of request_of_get_invocation_output payload
command_by types.CompleteAwakeableCommand payload = request_read records.CompleteAwakeableCommand complete_awakeable_command_of request_of_complete_awakeable payload
command_by _ payload = None

-- the request that a recorded frame is
abbrev pub command_of : RawMessage → Option Request
command_of m = command_by (message_type m.header) m.payload

-- what a queue of recorded frames is as the commands that are left to match
abbrev pub commands_of : List RawMessage → Commands
commands_of messages = map command_of messages

-- a read as it is recorded, where something is left to match: of the kind that the record has, with what was known
abbrev pub as_recorded : Commands → Request → Request
as_recorded (Some (Request.GetEagerState recorded value other) ∷ left) (Request.GetLazyState key n name) = Request.GetEagerState key value name
as_recorded (Some (Request.GetEagerStateKeys keys other) ∷ left) (Request.GetLazyStateKeys n name) = Request.GetEagerStateKeys keys name
as_recorded left made = made

-- ---- laws

-- a frame that is a request is of the request's type
abbrev pub KeepsTypes : Type 0
KeepsTypes = (m : RawMessage) (request : Request) → command_of m ≡ Some request → request_type request ≡ message_type m.header

-- where something is left to match, this is the read that an attempt makes, of a key and of all keys
abbrev pub ReadsAsRecorded : Type 0
ReadsAsRecorded = (found : Option Request) (left : Commands) (fresh : Request) (n : ℕ) (key : Bytes) (name : Text)
    → (read_value (found ∷ left) fresh n key name ≡ as_recorded (found ∷ left) (Request.GetLazyState key n name))
    × (read_keys (found ∷ left) fresh n name ≡ as_recorded (found ∷ left) (Request.GetLazyStateKeys n name))
