-- Header equality of requests is that what is compared of their records is the same.
use Rattle.std.proofs.Common.{◌≡◌, Bool, true, false, true≢false, ◌||◌, nat_eq, refl, ap, sym, ◌∙◌}
use Rattle.std.proofs.lemmas.Bool.{eq-eqb}
use Rattle.protocol_types.specs.MessageType.{type_number}
use Rattle.protocol_equality.specs.EqualityTests.{DecidesErased}
use Rattle.protocol_equality.specs.Commands.{output_command_tells, sleep_command_tells, get_lazy_state_command_tells, get_lazy_state_keys_command_tells, get_eager_state_command_tells, get_eager_state_keys_command_tells, set_state_command_tells, clear_state_command_tells, clear_all_state_command_tells, get_promise_command_tells, peek_promise_command_tells, complete_promise_command_tells, run_command_tells, send_signal_command_tells, attach_invocation_command_tells, get_invocation_output_command_tells, complete_awakeable_command_tells}
use Rattle.protocol_equality.specs.Calls.{call_command_tells, one_way_call_command_tells}
use Rattle.protocol_laws.specs.Commands.{CommandRecord, command_record}
use Rattle.vm_commands.specs.HeaderEquality.{same_record, erased_command, type_of_command, is_unstable, ComparesReflexively, ComparesTypes, ComparesHeaders}
use Rattle.vm_commands.specs.RecordMeanings.{request_typed}

-- records of two types are not the same
apart : {A : Type 0} {x y : CommandRecord} → x ≡ y → nat_eq (type_number (type_of_command x)) (type_number (type_of_command y)) ≡ false → A
apart {x = x} {y = y} h other =
    absurd (true≢false (sym (eq-eqb (type_number (type_of_command x)) (type_number (type_of_command y)) (ap (λ (z : CommandRecord). type_number (type_of_command z)) h)) ∙ other))

-- two records of one command are compared by that command's own test; two of others are never the same
alike : (ignoring : Bool) (x y : CommandRecord) → same_record ignoring x y ≡ true → erased_command ignoring x ≡ erased_command ignoring y
alike ignoring (CommandRecord.Output x) (CommandRecord.Output y) h = ap CommandRecord.Output ((output_command_tells ignoring).alike x y h)
alike ignoring (CommandRecord.GetLazyState x) (CommandRecord.GetLazyState y) h = ap CommandRecord.GetLazyState ((get_lazy_state_command_tells ignoring).alike x y h)
alike ignoring (CommandRecord.GetEagerState x) (CommandRecord.GetEagerState y) h = ap CommandRecord.GetEagerState ((get_eager_state_command_tells ignoring).alike x y h)
alike ignoring (CommandRecord.GetLazyStateKeys x) (CommandRecord.GetLazyStateKeys y) h = ap CommandRecord.GetLazyStateKeys ((get_lazy_state_keys_command_tells ignoring).alike x y h)
alike ignoring (CommandRecord.GetEagerStateKeys x) (CommandRecord.GetEagerStateKeys y) h = ap CommandRecord.GetEagerStateKeys ((get_eager_state_keys_command_tells ignoring).alike x y h)
alike ignoring (CommandRecord.SetState x) (CommandRecord.SetState y) h = ap CommandRecord.SetState ((set_state_command_tells ignoring).alike x y h)
alike ignoring (CommandRecord.ClearState x) (CommandRecord.ClearState y) h = ap CommandRecord.ClearState ((clear_state_command_tells ignoring).alike x y h)
alike ignoring (CommandRecord.ClearAllState x) (CommandRecord.ClearAllState y) h = ap CommandRecord.ClearAllState ((clear_all_state_command_tells ignoring).alike x y h)
alike ignoring (CommandRecord.GetPromise x) (CommandRecord.GetPromise y) h = ap CommandRecord.GetPromise ((get_promise_command_tells ignoring).alike x y h)
alike ignoring (CommandRecord.PeekPromise x) (CommandRecord.PeekPromise y) h = ap CommandRecord.PeekPromise ((peek_promise_command_tells ignoring).alike x y h)
alike ignoring (CommandRecord.CompletePromise x) (CommandRecord.CompletePromise y) h = ap CommandRecord.CompletePromise ((complete_promise_command_tells ignoring).alike x y h)
alike ignoring (CommandRecord.Sleep x) (CommandRecord.Sleep y) h = ap CommandRecord.Sleep ((sleep_command_tells ignoring).alike x y h)
alike ignoring (CommandRecord.CallService x) (CommandRecord.CallService y) h = ap CommandRecord.CallService ((call_command_tells ignoring).alike x y h)
alike ignoring (CommandRecord.OneWayCall x) (CommandRecord.OneWayCall y) h = ap CommandRecord.OneWayCall ((one_way_call_command_tells ignoring).alike x y h)
alike ignoring (CommandRecord.SendSignal x) (CommandRecord.SendSignal y) h = ap CommandRecord.SendSignal ((send_signal_command_tells ignoring).alike x y h)
alike ignoring (CommandRecord.Run x) (CommandRecord.Run y) h = ap CommandRecord.Run ((run_command_tells ignoring).alike x y h)
alike ignoring (CommandRecord.AttachInvocation x) (CommandRecord.AttachInvocation y) h = ap CommandRecord.AttachInvocation ((attach_invocation_command_tells ignoring).alike x y h)
alike ignoring (CommandRecord.GetInvocationOutput x) (CommandRecord.GetInvocationOutput y) h = ap CommandRecord.GetInvocationOutput ((get_invocation_output_command_tells ignoring).alike x y h)
alike ignoring (CommandRecord.CompleteAwakeable x) (CommandRecord.CompleteAwakeable y) h = ap CommandRecord.CompleteAwakeable ((complete_awakeable_command_tells ignoring).alike x y h)
alike ignoring _ _ h = absurd (true≢false (sym h))

found : (ignoring : Bool) (x y : CommandRecord) → erased_command ignoring x ≡ erased_command ignoring y → same_record ignoring x y ≡ true
found ignoring (CommandRecord.Output x) (CommandRecord.Output y) h = (output_command_tells ignoring).found x y (cc)
found ignoring (CommandRecord.GetLazyState x) (CommandRecord.GetLazyState y) h = (get_lazy_state_command_tells ignoring).found x y (cc)
found ignoring (CommandRecord.GetEagerState x) (CommandRecord.GetEagerState y) h = (get_eager_state_command_tells ignoring).found x y (cc)
found ignoring (CommandRecord.GetLazyStateKeys x) (CommandRecord.GetLazyStateKeys y) h = (get_lazy_state_keys_command_tells ignoring).found x y (cc)
found ignoring (CommandRecord.GetEagerStateKeys x) (CommandRecord.GetEagerStateKeys y) h = (get_eager_state_keys_command_tells ignoring).found x y (cc)
found ignoring (CommandRecord.SetState x) (CommandRecord.SetState y) h = (set_state_command_tells ignoring).found x y (cc)
found ignoring (CommandRecord.ClearState x) (CommandRecord.ClearState y) h = (clear_state_command_tells ignoring).found x y (cc)
found ignoring (CommandRecord.ClearAllState x) (CommandRecord.ClearAllState y) h = (clear_all_state_command_tells ignoring).found x y (cc)
found ignoring (CommandRecord.GetPromise x) (CommandRecord.GetPromise y) h = (get_promise_command_tells ignoring).found x y (cc)
found ignoring (CommandRecord.PeekPromise x) (CommandRecord.PeekPromise y) h = (peek_promise_command_tells ignoring).found x y (cc)
found ignoring (CommandRecord.CompletePromise x) (CommandRecord.CompletePromise y) h = (complete_promise_command_tells ignoring).found x y (cc)
found ignoring (CommandRecord.Sleep x) (CommandRecord.Sleep y) h = (sleep_command_tells ignoring).found x y (cc)
found ignoring (CommandRecord.CallService x) (CommandRecord.CallService y) h = (call_command_tells ignoring).found x y (cc)
found ignoring (CommandRecord.OneWayCall x) (CommandRecord.OneWayCall y) h = (one_way_call_command_tells ignoring).found x y (cc)
found ignoring (CommandRecord.SendSignal x) (CommandRecord.SendSignal y) h = (send_signal_command_tells ignoring).found x y (cc)
found ignoring (CommandRecord.Run x) (CommandRecord.Run y) h = (run_command_tells ignoring).found x y (cc)
found ignoring (CommandRecord.AttachInvocation x) (CommandRecord.AttachInvocation y) h = (attach_invocation_command_tells ignoring).found x y (cc)
found ignoring (CommandRecord.GetInvocationOutput x) (CommandRecord.GetInvocationOutput y) h = (get_invocation_output_command_tells ignoring).found x y (cc)
found ignoring (CommandRecord.CompleteAwakeable x) (CommandRecord.CompleteAwakeable y) h = (complete_awakeable_command_tells ignoring).found x y (cc)
found ignoring _ _ h = apart h refl

record_tells : (ignoring : Bool) → DecidesErased (same_record ignoring) (erased_command ignoring)
record_tells ignoring = record { alike = alike ignoring; found = found ignoring }

type_erased : (ignoring : Bool) (x : CommandRecord) → type_of_command (erased_command ignoring x) ≡ type_of_command x
type_erased ignoring (CommandRecord.Output x) = refl
type_erased ignoring _ = refl

pub compares_headers : ComparesHeaders
compares_headers ignoring recorded made =
    (λ h. (record_tells ignoring).alike (command_record recorded) (command_record made) h, λ h. (record_tells ignoring).found (command_record recorded) (command_record made) h)

pub compares_reflexively : ComparesReflexively
compares_reflexively checks_off call request = (record_tells (checks_off || is_unstable call)).found (command_record request) (command_record request) refl

pub compares_types : ComparesTypes
compares_types ignoring recorded made h =
    request_typed recorded ∙ sym (type_erased ignoring (command_record recorded)) ∙ ap type_of_command ((record_tells ignoring).alike (command_record recorded) (command_record made) h)
    ∙ type_erased ignoring (command_record made) ∙ sym (request_typed made)
