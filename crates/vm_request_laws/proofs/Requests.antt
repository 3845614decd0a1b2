-- The payload of a request is read as this request.
use Rattle.std.proofs.Common.{◌≡◌, arith, ℕ, ◌<◌, ◌^◌, List, length, Option, Some, refl, true, sym, ◌∙◌, subst}
use Rattle.protocol_table.specs.declared.table.RecordType.{RecordType}
use Rattle.protocol_wire.specs.Wire.{Field}
use Rattle.protocol_wire.specs.Parts.{Part, payload_of}
use Rattle.protocol_wire.specs.declared.record.TheConstants.{LEVELS}
use Rattle.protocol_wire.proofs.Holds.{Reads}
use Rattle.protocol_types.specs.declared.message_type.MessageType.{MessageType}
use Rattle.protocol_types.proofs.Types.{is_named}
use Rattle.journal_model.specs.Request.{Request}
use Rattle.journal_model.specs.Spelling.{request_type, request_payload}
use Rattle.protocol_records.specs.OutputCommand.{output_command_parts}
use Rattle.protocol_records.specs.SleepCommand.{sleep_command_parts}
use Rattle.protocol_records.specs.ReadBack.{sleep_command_reads, output_command_reads}
use Rattle.protocol_commands.specs.Fields as commands
use Rattle.protocol_commands.specs.GetEagerStateCommand as eager
use Rattle.protocol_commands.specs.CompletePromiseCommand as promises
use Rattle.protocol_commands.specs.ReadBack as command_reads
use Rattle.protocol_commands.specs.ReadBack.{get_eager_state_command_reads, complete_promise_command_reads}
use Rattle.protocol_calls.specs.Fields as calls
use Rattle.protocol_calls.specs.SendSignalCommand.{send_signal_command_parts}
use Rattle.protocol_calls.specs.AttachInvocationCommand.{attach_invocation_command_parts}
use Rattle.protocol_calls.specs.GetInvocationOutputCommand.{get_invocation_output_command_parts}
use Rattle.protocol_calls.specs.CompleteAwakeableCommand.{complete_awakeable_command_parts}
use Rattle.protocol_calls.specs.ReadBack as call_reads
use Rattle.protocol_calls.specs.ReadBack.{send_signal_command_reads, attach_invocation_command_reads, get_invocation_output_command_reads, complete_awakeable_command_reads}
use Rattle.protocol_stream.specs.Frame.{message_of}
use Rattle.protocol_stream.proofs.Frames.{item_at-frame_bytes}
use Rattle.protocol_laws.specs.Requests.{request_of_output, request_of_get_lazy_state, request_of_get_eager_state, request_of_get_lazy_state_keys, request_of_get_eager_state_keys, request_of_set_state, request_of_clear_state, request_of_clear_all_state, request_of_get_promise, request_of_peek_promise, request_of_complete_promise, request_of_sleep, request_of_call, request_of_one_way_call, request_of_send_signal, request_of_run, request_of_attach_invocation, request_of_get_invocation_output, request_of_complete_awakeable}
use Rattle.protocol_laws.proofs.Told.{requests_told}
use Rattle.protocol_laws.proofs.Requests.{requests_spelled}
use Rattle.vm_commands.specs.RecordedCommands.{request_read, command_by, command_of}
use Rattle.vm_request_laws.specs.RequestBounds.{RequestFits}
use Rattle.vm_request_laws.specs.Requests.{RequestsReadBack}

-- what a record that fits stands for is read of its payload
read : {R : Type 0} (t : RecordType) (of : ℕ → List Field → R) (parts : R → List Part) (Fits : ℕ → R → Type 0) (request_of : R → Option Request)
    → Reads t of parts Fits → (one : R) (request : Request) (payload : List ℕ) → Fits LEVELS one → payload_of (parts one) ≡ payload → length payload < 2 ^ 32 → request_of one ≡ Some request
    → request_read t of request_of payload ≡ Some request
read t of parts Fits request_of reads one request payload fits spelled short told =
    let is = reads LEVELS one fits (rw spelled (omega (arith, short))) in
    subst (λ (p : List ℕ). request_read t of request_of p ≡ Some request) spelled (rw (is.sound, sym is.value) told)

-- each request's
pub payload_read : (request : Request) → RequestFits request → command_by (request_type request) (request_payload request) ≡ Some request
payload_read (Request.Output value name) h = read _ _ output_command_parts _ request_of_output output_command_reads _ _ _ h.fits (requests_spelled (Request.Output value name)) h.short (requests_told (Request.Output value name))
payload_read (Request.GetLazyState key n name) h = read _ _ commands.get_lazy_state_command_parts _ (λ one. Some (request_of_get_lazy_state one)) command_reads.get_lazy_state_command_reads _ _ _ h.fits (requests_spelled (Request.GetLazyState key n name)) h.short (requests_told (Request.GetLazyState key n name))
payload_read (Request.GetEagerState key value name) h = read _ _ eager.get_eager_state_command_parts _ request_of_get_eager_state get_eager_state_command_reads _ _ _ h.fits (requests_spelled (Request.GetEagerState key value name)) h.short (requests_told (Request.GetEagerState key value name))
payload_read (Request.GetLazyStateKeys n name) h = read _ _ commands.get_lazy_state_keys_command_parts _ (λ one. Some (request_of_get_lazy_state_keys one)) command_reads.get_lazy_state_keys_command_reads _ _ _ h.fits (requests_spelled (Request.GetLazyStateKeys n name)) h.short (requests_told (Request.GetLazyStateKeys n name))
payload_read (Request.GetEagerStateKeys keys name) h = read _ _ commands.get_eager_state_keys_command_parts _ request_of_get_eager_state_keys command_reads.get_eager_state_keys_command_reads _ _ _ h.fits (requests_spelled (Request.GetEagerStateKeys keys name)) h.short (requests_told (Request.GetEagerStateKeys keys name))
payload_read (Request.SetState key value name) h = read _ _ commands.set_state_command_parts _ request_of_set_state command_reads.set_state_command_reads _ _ _ h.fits (requests_spelled (Request.SetState key value name)) h.short (requests_told (Request.SetState key value name))
payload_read (Request.ClearState key name) h = read _ _ commands.clear_state_command_parts _ (λ one. Some (request_of_clear_state one)) command_reads.clear_state_command_reads _ _ _ h.fits (requests_spelled (Request.ClearState key name)) h.short (requests_told (Request.ClearState key name))
payload_read (Request.ClearAllState name) h = read _ _ commands.clear_all_state_command_parts _ (λ one. Some (request_of_clear_all_state one)) command_reads.clear_all_state_command_reads _ _ _ h.fits (requests_spelled (Request.ClearAllState name)) h.short (requests_told (Request.ClearAllState name))
payload_read (Request.GetPromise key n name) h = read _ _ commands.get_promise_command_parts _ (λ one. Some (request_of_get_promise one)) command_reads.get_promise_command_reads _ _ _ h.fits (requests_spelled (Request.GetPromise key n name)) h.short (requests_told (Request.GetPromise key n name))
payload_read (Request.PeekPromise key n name) h = read _ _ commands.peek_promise_command_parts _ (λ one. Some (request_of_peek_promise one)) command_reads.peek_promise_command_reads _ _ _ h.fits (requests_spelled (Request.PeekPromise key n name)) h.short (requests_told (Request.PeekPromise key n name))
payload_read (Request.CompletePromise key value n name) h = read _ _ promises.complete_promise_command_parts _ request_of_complete_promise complete_promise_command_reads _ _ _ h.fits (requests_spelled (Request.CompletePromise key value n name)) h.short (requests_told (Request.CompletePromise key value n name))
payload_read (Request.Sleep time n name) h = read _ _ sleep_command_parts _ (λ one. Some (request_of_sleep one)) sleep_command_reads _ _ _ h.fits (requests_spelled (Request.Sleep time n name)) h.short (requests_told (Request.Sleep time n name))
payload_read (Request.CallService call m n name) h = read _ _ calls.call_command_parts _ (λ one. Some (request_of_call one)) call_reads.call_command_reads _ _ _ h.fits (requests_spelled (Request.CallService call m n name)) h.short (requests_told (Request.CallService call m n name))
payload_read (Request.OneWayCall call time m name) h = read _ _ calls.one_way_call_command_parts _ (λ one. Some (request_of_one_way_call one)) call_reads.one_way_call_command_reads _ _ _ h.fits (requests_spelled (Request.OneWayCall call time m name)) h.short (requests_told (Request.OneWayCall call time m name))
payload_read (Request.SendSignal target key value name) h = read _ _ send_signal_command_parts _ request_of_send_signal send_signal_command_reads _ _ _ h.fits (requests_spelled (Request.SendSignal target key value name)) h.short (requests_told (Request.SendSignal target key value name))
payload_read (Request.Run n name) h = read _ _ commands.run_command_parts _ (λ one. Some (request_of_run one)) command_reads.run_command_reads _ _ _ h.fits (requests_spelled (Request.Run n name)) h.short (requests_told (Request.Run n name))
payload_read (Request.AttachInvocation target n name) h = read _ _ attach_invocation_command_parts _ request_of_attach_invocation attach_invocation_command_reads _ _ _ h.fits (requests_spelled (Request.AttachInvocation target n name)) h.short (requests_told (Request.AttachInvocation target n name))
payload_read (Request.GetInvocationOutput target n name) h = read _ _ get_invocation_output_command_parts _ request_of_get_invocation_output get_invocation_output_command_reads _ _ _ h.fits (requests_spelled (Request.GetInvocationOutput target n name)) h.short (requests_told (Request.GetInvocationOutput target n name))
payload_read (Request.CompleteAwakeable id value name) h = read _ _ complete_awakeable_command_parts _ request_of_complete_awakeable complete_awakeable_command_reads _ _ _ h.fits (requests_spelled (Request.CompleteAwakeable id value name)) h.short (requests_told (Request.CompleteAwakeable id value name))

named : (request : Request) → is_named (request_type request) ≡ true
named (Request.Output value name) = refl
named _ = refl

typed : (ty : MessageType) (payload : List ℕ) → command_of (message_of ty payload) ≡ command_by ty payload
typed ty payload = refl

pub requests_read_back : RequestsReadBack
requests_read_back request rest h = record {
  front = item_at-frame_bytes (request_type request) (request_payload request) rest (named request) h.short;
  command = typed (request_type request) (request_payload request) ∙ payload_read request h;
}
