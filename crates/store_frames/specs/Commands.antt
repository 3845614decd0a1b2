-- Which request the fields of a message stand for, by the type of the message: one line a command.
use Rattle.std.specs.Prelude.{◌≡◌, ℕ, List, [], ◌∷◌, Option, Some, None}
use Rattle.std.specs.List.{list_all}
use Rattle.std.specs.Str.{is_utf8}
use Rattle.std.proofs.Common.{sym, ap, ◌∙◌}
use Rattle.protocol_wire.specs.Wire.{Field}
use Rattle.protocol_wire.specs.Parts.{Part, payload_of}
use Rattle.protocol_wire.specs.declared.record.TheConstants.{LEVELS}
use Rattle.journal_model.specs.Request.{Request, completions_asked}
use Rattle.journal_model.specs.Spelling.{request_payload, request_type}
use Rattle.journal_model.specs.Cause.{keys_of}
use Rattle.protocol_records.specs.SleepCommand.{sleep_command_of}
use Rattle.protocol_records.specs.OutputCommand.{output_command_of}
use Rattle.protocol_commands.specs.Fields.{get_lazy_state_command_of, get_lazy_state_keys_command_of, get_eager_state_keys_command_of, set_state_command_of, clear_state_command_of, clear_all_state_command_of, get_promise_command_of, peek_promise_command_of, run_command_of}
use Rattle.protocol_commands.specs.GetEagerStateCommand.{get_eager_state_command_of}
use Rattle.protocol_commands.specs.CompletePromiseCommand.{complete_promise_command_of}
use Rattle.protocol_calls.specs.Fields.{call_command_of, one_way_call_command_of}
use Rattle.protocol_calls.specs.SendSignalCommand.{send_signal_command_of}
use Rattle.protocol_calls.specs.AttachInvocationCommand.{attach_invocation_command_of}
use Rattle.protocol_calls.specs.GetInvocationOutputCommand.{get_invocation_output_command_of}
use Rattle.protocol_calls.specs.CompleteAwakeableCommand.{complete_awakeable_command_of}
use Rattle.protocol_types.specs.declared.message_type.MessageType.{MessageType}
use Rattle.protocol_types.specs.declared.message_type.MessageType.TheVariants as types
use Rattle.protocol_laws.specs.Commands.{CommandRecord, command_parts}
use Rattle.protocol_laws.specs.Requests.{request_told, request_of_output, request_of_get_lazy_state, request_of_get_eager_state, request_of_get_lazy_state_keys, request_of_get_eager_state_keys, request_of_set_state, request_of_clear_state, request_of_clear_all_state, request_of_get_promise, request_of_peek_promise, request_of_complete_promise, request_of_sleep, request_of_call, request_of_one_way_call, request_of_send_signal, request_of_run, request_of_attach_invocation, request_of_get_invocation_output, request_of_complete_awakeable}
use Rattle.protocol_laws.proofs.Back.{records_told}
use Rattle.protocol_laws.proofs.Requests.{requests_spelled}
use Rattle.store_frames.specs.declared.command.AskedFor.{AskedFor}
use Rattle.store_frames.specs.declared.frame.StateUse.{StateUse}
use Rattle.store_frames.specs.declared.frame.StateUse.TheVariants as uses

-- None where they lack what each request of the kind has, and of a type that is no command's
abbrev pub request_in : MessageType → List Field → Option Request
request_in types.OutputCommand fs = request_of_output (output_command_of LEVELS fs)
request_in types.GetLazyStateCommand fs = Some (request_of_get_lazy_state (get_lazy_state_command_of LEVELS fs))
request_in types.GetEagerStateCommand fs = request_of_get_eager_state (get_eager_state_command_of LEVELS fs)
request_in types.GetLazyStateKeysCommand fs = Some (request_of_get_lazy_state_keys (get_lazy_state_keys_command_of LEVELS fs))
request_in types.GetEagerStateKeysCommand fs = request_of_get_eager_state_keys (get_eager_state_keys_command_of LEVELS fs)
request_in types.SetStateCommand fs = request_of_set_state (set_state_command_of LEVELS fs)
request_in types.ClearStateCommand fs = Some (request_of_clear_state (clear_state_command_of LEVELS fs))
request_in types.ClearAllStateCommand fs = Some (request_of_clear_all_state (clear_all_state_command_of LEVELS fs))
request_in types.GetPromiseCommand fs = Some (request_of_get_promise (get_promise_command_of LEVELS fs))
request_in types.PeekPromiseCommand fs = Some (request_of_peek_promise (peek_promise_command_of LEVELS fs))
request_in types.CompletePromiseCommand fs = request_of_complete_promise (complete_promise_command_of LEVELS fs)
request_in types.SleepCommand fs = Some (request_of_sleep (sleep_command_of LEVELS fs))
request_in types.CallCommand fs = Some (request_of_call (call_command_of LEVELS fs))
request_in types.OneWayCallCommand fs = Some (request_of_one_way_call (one_way_call_command_of LEVELS fs))
request_in types.SendSignalCommand fs = request_of_send_signal (send_signal_command_of LEVELS fs)
request_in types.RunCommand fs = Some (request_of_run (run_command_of LEVELS fs))
request_in types.AttachInvocationCommand fs = request_of_attach_invocation (attach_invocation_command_of LEVELS fs)
request_in types.GetInvocationOutputCommand fs = request_of_get_invocation_output (get_invocation_output_command_of LEVELS fs)
request_in types.CompleteAwakeableCommand fs = request_of_complete_awakeable (complete_awakeable_command_of LEVELS fs)
request_in _ fs = None

-- ---- what is kept of it

abbrev pub first_asked : List ℕ → Option ℕ
first_asked [] = None
first_asked (n ∷ ns) = Some n

abbrev pub second_asked : List ℕ → Option ℕ
second_asked [] = None
second_asked (n ∷ ns) = first_asked ns

-- when a sleep ends
abbrev pub moment_of : Request → ℕ
moment_of (Request.Sleep moment n name) = moment
moment_of _ = 0

-- what it does with the state
abbrev pub state_use : Request → StateUse
state_use (Request.SetState key value name) = uses.Put key value
state_use (Request.ClearState key name) = uses.Remove key
state_use (Request.ClearAllState name) = uses.RemoveAll
state_use (Request.GetLazyState key n name) = uses.ReadValue key
state_use (Request.GetLazyStateKeys n name) = uses.ReadKeys
state_use _ = uses.Nothing

-- beside its payload
abbrev pub asked_for : Request → AskedFor
asked_for request = record {
  kind = request_type request;
  completion = first_asked (completions_asked request);
  second_completion = second_asked (completions_asked request);
  moment = moment_of request;
  state = state_use request;
  are_keys_text = list_all is_utf8 (keys_of request);
}

-- the canonical payload of a record that stands for a request is that request's
pub record SpellsRequests {R : Type 0} (parts : R → List Part) (request_of : R → Option Request) : Type 0 where
  pub payload : (one : R) (request : Request) → request_of one ≡ Some request → payload_of (parts one) ≡ request_payload request

-- by the constructor of the record
pub spells : {R : Type 0} {parts : R → List Part} {request_of : R → Option Request} (wrap : R → CommandRecord)
    → ((one : R) → request_told (wrap one) ≡ request_of one) → ((one : R) → command_parts (wrap one) ≡ parts one) → SpellsRequests parts request_of
spells wrap told parted = record {
  payload = λ one request h.
      ap payload_of (sym (parted one)) ∙ ap (λ (r : CommandRecord). payload_of (command_parts r)) (sym (records_told (wrap one) request (told one ∙ h))) ∙ requests_spelled request;
}
