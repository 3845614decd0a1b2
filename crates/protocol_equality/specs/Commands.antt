-- Commands but those that call other invocations. What header equality compares of them, and the test that tells it.
use Rattle.std.specs.Prelude.{ℕ, Bool, true, false, ◌&&◌, List, [], Option, None, nat_eq, refl}
use Rattle.std.proofs.Common.{ap}
use Rattle.std.specs.Option.{option_eq, option_map}
use Rattle.protocol_equality.specs.EqualityTests.{ToldBy, in_full, deciding, options_tell, options_decide, both_tell, parts_tell}
use Rattle.protocol_equality.specs.Laws.{Coarser, coarser_by}
use Rattle.protocol_equality.specs.Parts.{same_text, numbers_tell, texts_tell}
use Rattle.protocol_equality.specs.Payloads.{same_output_result, erased_output_result, output_result_tells, options_erased, output_result_erased, same_content, erased_value, content_tells, same_state_result, erased_state_result, state_result_tells, value_erased, state_result_erased, same_completion, erased_completion, completion_tells, completion_erased, same_awakeable_result, erased_awakeable_result, awakeable_result_tells, awakeable_result_erased}
use Rattle.protocol_records.specs.declared.output_command.OutputCommandResult.{OutputCommandResult}
use Rattle.protocol_records.specs.declared.input_command.InputCommandMessage.{InputCommandMessage}
use Rattle.protocol_records.specs.declared.output_command.OutputCommandMessage.{OutputCommandMessage}
use Rattle.protocol_records.specs.declared.sleep_command.SleepCommandMessage.{SleepCommandMessage}
use Rattle.protocol_equality.specs.Records.{same_state_keys, state_keys_tells}
use Rattle.protocol_records.specs.declared.value.Value.{Value}
use Rattle.protocol_records.specs.declared.state_keys.StateKeys.{StateKeys}
use Rattle.protocol_commands.specs.declared.get_eager_state_command.GetEagerStateCommandResult.{GetEagerStateCommandResult}
use Rattle.protocol_commands.specs.declared.get_lazy_state_command.GetLazyStateCommandMessage.{GetLazyStateCommandMessage}
use Rattle.protocol_commands.specs.declared.get_lazy_state_keys_command.GetLazyStateKeysCommandMessage.{GetLazyStateKeysCommandMessage}
use Rattle.protocol_commands.specs.declared.get_eager_state_command.GetEagerStateCommandMessage.{GetEagerStateCommandMessage}
use Rattle.protocol_commands.specs.declared.get_eager_state_keys_command.GetEagerStateKeysCommandMessage.{GetEagerStateKeysCommandMessage}
use Rattle.protocol_commands.specs.declared.set_state_command.SetStateCommandMessage.{SetStateCommandMessage}
use Rattle.protocol_commands.specs.declared.clear_state_command.ClearStateCommandMessage.{ClearStateCommandMessage}
use Rattle.protocol_commands.specs.declared.clear_all_state_command.ClearAllStateCommandMessage.{ClearAllStateCommandMessage}
use Rattle.protocol_commands.specs.declared.complete_promise_command.CompletePromiseCommandCompletion.{CompletePromiseCommandCompletion}
use Rattle.protocol_commands.specs.declared.get_promise_command.GetPromiseCommandMessage.{GetPromiseCommandMessage}
use Rattle.protocol_commands.specs.declared.peek_promise_command.PeekPromiseCommandMessage.{PeekPromiseCommandMessage}
use Rattle.protocol_commands.specs.declared.complete_promise_command.CompletePromiseCommandMessage.{CompletePromiseCommandMessage}
use Rattle.protocol_commands.specs.declared.run_command.RunCommandMessage.{RunCommandMessage}
use Rattle.protocol_equality.specs.Choices.{same_signal_id, signal_id_tells, same_signal_result, signal_result_tells, same_invocation_target, invocation_target_tells}
use Rattle.protocol_calls.specs.declared.complete_awakeable_command.CompleteAwakeableCommandResult.{CompleteAwakeableCommandResult}
use Rattle.protocol_calls.specs.declared.send_signal_command.SendSignalCommandSignalId.{SendSignalCommandSignalId}
use Rattle.protocol_calls.specs.declared.send_signal_command.SendSignalCommandResult.{SendSignalCommandResult}
use Rattle.protocol_calls.specs.declared.invocation_target.InvocationTarget.{InvocationTarget}
use Rattle.protocol_calls.specs.declared.send_signal_command.SendSignalCommandMessage.{SendSignalCommandMessage}
use Rattle.protocol_calls.specs.declared.attach_invocation_command.AttachInvocationCommandMessage.{AttachInvocationCommandMessage}
use Rattle.protocol_calls.specs.declared.get_invocation_output_command.GetInvocationOutputCommandMessage.{GetInvocationOutputCommandMessage}
use Rattle.protocol_calls.specs.declared.complete_awakeable_command.CompleteAwakeableCommandMessage.{CompleteAwakeableCommandMessage}

abbrev pub erased_input_command : Bool → InputCommandMessage → InputCommandMessage
erased_input_command ignoring x = record { headers = []; name = []; value = None }

abbrev pub same_input_command : Bool → InputCommandMessage → InputCommandMessage → Bool
same_input_command ignoring x y = true

pub input_command_tells : ToldBy same_input_command erased_input_command
input_command_tells ignoring = record { alike = λ x y h. refl; found = λ x y h. refl }

pub input_command_coarser : Coarser erased_input_command
input_command_coarser x y h = h

abbrev pub erased_output_command : Bool → OutputCommandMessage → OutputCommandMessage
erased_output_command ignoring x = record { name = x.name; result = option_map (erased_output_result ignoring) x.result }

abbrev pub same_output_command : Bool → OutputCommandMessage → OutputCommandMessage → Bool
same_output_command ignoring x y = same_text x.name y.name && option_eq (same_output_result ignoring) x.result y.result

abbrev output_command_parts : OutputCommandMessage → (List ℕ) × (Option OutputCommandResult)
output_command_parts x = (x.name, x.result)

pub output_command_tells : ToldBy same_output_command erased_output_command
output_command_tells ignoring =
    parts_tell output_command_parts (erased_output_command ignoring) (λ x y h i. record { name = (h i).0; result = (h i).1 }) (λ x y h. ap output_command_parts h)
    (both_tell texts_tell (options_tell (output_result_tells ignoring)))

pub output_command_coarser : Coarser erased_output_command
output_command_coarser = coarser_by erased_output_command (λ x i. record { name = x.name; result = options_erased (erased_output_result true) (erased_output_result false) output_result_erased x.result i })

abbrev pub erased_sleep_command : Bool → SleepCommandMessage → SleepCommandMessage
erased_sleep_command ignoring x = record { wake_up_time = 0; result_completion_id = x.result_completion_id; name = x.name }

abbrev pub same_sleep_command : Bool → SleepCommandMessage → SleepCommandMessage → Bool
same_sleep_command ignoring x y = nat_eq x.result_completion_id y.result_completion_id && same_text x.name y.name

abbrev sleep_command_parts : SleepCommandMessage → ℕ × (List ℕ)
sleep_command_parts x = (x.result_completion_id, x.name)

pub sleep_command_tells : ToldBy same_sleep_command erased_sleep_command
sleep_command_tells ignoring =
    parts_tell sleep_command_parts (erased_sleep_command ignoring) (λ x y h i. record { wake_up_time = 0; result_completion_id = (h i).0; name = (h i).1 }) (λ x y h. ap sleep_command_parts h)
    (both_tell numbers_tell texts_tell)

pub sleep_command_coarser : Coarser erased_sleep_command
sleep_command_coarser x y h = h

abbrev pub erased_get_lazy_state_command : Bool → GetLazyStateCommandMessage → GetLazyStateCommandMessage
erased_get_lazy_state_command ignoring x = record { key = x.key; result_completion_id = x.result_completion_id; name = x.name }

abbrev pub same_get_lazy_state_command : Bool → GetLazyStateCommandMessage → GetLazyStateCommandMessage → Bool
same_get_lazy_state_command ignoring x y = same_text x.key y.key && nat_eq x.result_completion_id y.result_completion_id && same_text x.name y.name

abbrev get_lazy_state_command_parts : GetLazyStateCommandMessage → ((List ℕ) × ℕ) × (List ℕ)
get_lazy_state_command_parts x = ((x.key, x.result_completion_id), x.name)

pub get_lazy_state_command_tells : ToldBy same_get_lazy_state_command erased_get_lazy_state_command
get_lazy_state_command_tells ignoring =
    parts_tell get_lazy_state_command_parts (erased_get_lazy_state_command ignoring) (λ x y h i. record { key = (h i).0.0; result_completion_id = (h i).0.1; name = (h i).1 }) (λ x y h. ap get_lazy_state_command_parts h)
    (both_tell (both_tell texts_tell numbers_tell) texts_tell)

pub get_lazy_state_command_coarser : Coarser erased_get_lazy_state_command
get_lazy_state_command_coarser x y h = h

abbrev pub erased_get_lazy_state_keys_command : Bool → GetLazyStateKeysCommandMessage → GetLazyStateKeysCommandMessage
erased_get_lazy_state_keys_command ignoring x = record { result_completion_id = x.result_completion_id; name = x.name }

abbrev pub same_get_lazy_state_keys_command : Bool → GetLazyStateKeysCommandMessage → GetLazyStateKeysCommandMessage → Bool
same_get_lazy_state_keys_command ignoring x y = nat_eq x.result_completion_id y.result_completion_id && same_text x.name y.name

abbrev get_lazy_state_keys_command_parts : GetLazyStateKeysCommandMessage → ℕ × (List ℕ)
get_lazy_state_keys_command_parts x = (x.result_completion_id, x.name)

pub get_lazy_state_keys_command_tells : ToldBy same_get_lazy_state_keys_command erased_get_lazy_state_keys_command
get_lazy_state_keys_command_tells ignoring =
    parts_tell get_lazy_state_keys_command_parts (erased_get_lazy_state_keys_command ignoring) (λ x y h i. record { result_completion_id = (h i).0; name = (h i).1 }) (λ x y h. ap get_lazy_state_keys_command_parts h)
    (both_tell numbers_tell texts_tell)

pub get_lazy_state_keys_command_coarser : Coarser erased_get_lazy_state_keys_command
get_lazy_state_keys_command_coarser x y h = h

abbrev pub erased_get_eager_state_command : Bool → GetEagerStateCommandMessage → GetEagerStateCommandMessage
erased_get_eager_state_command ignoring x = record { key = x.key; name = x.name; result = option_map (erased_state_result ignoring) x.result }

abbrev pub same_get_eager_state_command : Bool → GetEagerStateCommandMessage → GetEagerStateCommandMessage → Bool
same_get_eager_state_command ignoring x y =
    same_text x.key y.key
    && same_text x.name y.name
    && option_eq (same_state_result ignoring) x.result y.result

abbrev get_eager_state_command_parts : GetEagerStateCommandMessage → ((List ℕ) × (List ℕ)) × (Option GetEagerStateCommandResult)
get_eager_state_command_parts x = ((x.key, x.name), x.result)

pub get_eager_state_command_tells : ToldBy same_get_eager_state_command erased_get_eager_state_command
get_eager_state_command_tells ignoring =
    parts_tell get_eager_state_command_parts (erased_get_eager_state_command ignoring) (λ x y h i. record { key = (h i).0.0; name = (h i).0.1; result = (h i).1 }) (λ x y h. ap get_eager_state_command_parts h)
    (both_tell (both_tell texts_tell texts_tell) (options_tell (state_result_tells ignoring)))

pub get_eager_state_command_coarser : Coarser erased_get_eager_state_command
get_eager_state_command_coarser = coarser_by erased_get_eager_state_command (λ x i. record { key = x.key; name = x.name; result = options_erased (erased_state_result true) (erased_state_result false) state_result_erased x.result i })

abbrev pub erased_get_eager_state_keys_command : Bool → GetEagerStateKeysCommandMessage → GetEagerStateKeysCommandMessage
erased_get_eager_state_keys_command ignoring x = record { name = x.name; value = x.value }

abbrev pub same_get_eager_state_keys_command : Bool → GetEagerStateKeysCommandMessage → GetEagerStateKeysCommandMessage → Bool
same_get_eager_state_keys_command ignoring x y = same_text x.name y.name && option_eq same_state_keys x.value y.value

abbrev get_eager_state_keys_command_parts : GetEagerStateKeysCommandMessage → (List ℕ) × (Option StateKeys)
get_eager_state_keys_command_parts x = (x.name, x.value)

pub get_eager_state_keys_command_tells : ToldBy same_get_eager_state_keys_command erased_get_eager_state_keys_command
get_eager_state_keys_command_tells ignoring =
    parts_tell get_eager_state_keys_command_parts (erased_get_eager_state_keys_command ignoring) (λ x y h i. record { name = (h i).0; value = (h i).1 }) (λ x y h. ap get_eager_state_keys_command_parts h)
    (both_tell texts_tell (in_full (options_decide (deciding state_keys_tells))))

pub get_eager_state_keys_command_coarser : Coarser erased_get_eager_state_keys_command
get_eager_state_keys_command_coarser x y h = h

abbrev pub erased_set_state_command : Bool → SetStateCommandMessage → SetStateCommandMessage
erased_set_state_command ignoring x = record { key = x.key; value = option_map (erased_value ignoring) x.value; name = x.name }

abbrev pub same_set_state_command : Bool → SetStateCommandMessage → SetStateCommandMessage → Bool
same_set_state_command ignoring x y = same_text x.key y.key && option_eq (same_content ignoring) x.value y.value && same_text x.name y.name

abbrev set_state_command_parts : SetStateCommandMessage → ((List ℕ) × (Option Value)) × (List ℕ)
set_state_command_parts x = ((x.key, x.value), x.name)

pub set_state_command_tells : ToldBy same_set_state_command erased_set_state_command
set_state_command_tells ignoring =
    parts_tell set_state_command_parts (erased_set_state_command ignoring) (λ x y h i. record { key = (h i).0.0; value = (h i).0.1; name = (h i).1 }) (λ x y h. ap set_state_command_parts h)
    (both_tell (both_tell texts_tell (options_tell (content_tells ignoring))) texts_tell)

pub set_state_command_coarser : Coarser erased_set_state_command
set_state_command_coarser = coarser_by erased_set_state_command (λ x i. record { key = x.key; value = options_erased (erased_value true) (erased_value false) value_erased x.value i; name = x.name })

abbrev pub erased_clear_state_command : Bool → ClearStateCommandMessage → ClearStateCommandMessage
erased_clear_state_command ignoring x = record { key = x.key; name = x.name }

abbrev pub same_clear_state_command : Bool → ClearStateCommandMessage → ClearStateCommandMessage → Bool
same_clear_state_command ignoring x y = same_text x.key y.key && same_text x.name y.name

abbrev clear_state_command_parts : ClearStateCommandMessage → (List ℕ) × (List ℕ)
clear_state_command_parts x = (x.key, x.name)

pub clear_state_command_tells : ToldBy same_clear_state_command erased_clear_state_command
clear_state_command_tells ignoring =
    parts_tell clear_state_command_parts (erased_clear_state_command ignoring) (λ x y h i. record { key = (h i).0; name = (h i).1 }) (λ x y h. ap clear_state_command_parts h)
    (both_tell texts_tell texts_tell)

pub clear_state_command_coarser : Coarser erased_clear_state_command
clear_state_command_coarser x y h = h

abbrev pub erased_clear_all_state_command : Bool → ClearAllStateCommandMessage → ClearAllStateCommandMessage
erased_clear_all_state_command ignoring x = record { name = x.name }

abbrev pub same_clear_all_state_command : Bool → ClearAllStateCommandMessage → ClearAllStateCommandMessage → Bool
same_clear_all_state_command ignoring x y = same_text x.name y.name

pub clear_all_state_command_tells : ToldBy same_clear_all_state_command erased_clear_all_state_command
clear_all_state_command_tells ignoring =
    parts_tell (λ (x : ClearAllStateCommandMessage). x.name) (erased_clear_all_state_command ignoring) (λ x y h i. record { name = (h i) }) (λ x y h. ap (λ (x : ClearAllStateCommandMessage). x.name) h)
    texts_tell

pub clear_all_state_command_coarser : Coarser erased_clear_all_state_command
clear_all_state_command_coarser x y h = h

abbrev pub erased_get_promise_command : Bool → GetPromiseCommandMessage → GetPromiseCommandMessage
erased_get_promise_command ignoring x = record { key = x.key; result_completion_id = x.result_completion_id; name = x.name }

abbrev pub same_get_promise_command : Bool → GetPromiseCommandMessage → GetPromiseCommandMessage → Bool
same_get_promise_command ignoring x y = same_text x.key y.key && nat_eq x.result_completion_id y.result_completion_id && same_text x.name y.name

abbrev get_promise_command_parts : GetPromiseCommandMessage → ((List ℕ) × ℕ) × (List ℕ)
get_promise_command_parts x = ((x.key, x.result_completion_id), x.name)

pub get_promise_command_tells : ToldBy same_get_promise_command erased_get_promise_command
get_promise_command_tells ignoring =
    parts_tell get_promise_command_parts (erased_get_promise_command ignoring) (λ x y h i. record { key = (h i).0.0; result_completion_id = (h i).0.1; name = (h i).1 }) (λ x y h. ap get_promise_command_parts h)
    (both_tell (both_tell texts_tell numbers_tell) texts_tell)

pub get_promise_command_coarser : Coarser erased_get_promise_command
get_promise_command_coarser x y h = h

abbrev pub erased_peek_promise_command : Bool → PeekPromiseCommandMessage → PeekPromiseCommandMessage
erased_peek_promise_command ignoring x = record { key = x.key; result_completion_id = x.result_completion_id; name = x.name }

abbrev pub same_peek_promise_command : Bool → PeekPromiseCommandMessage → PeekPromiseCommandMessage → Bool
same_peek_promise_command ignoring x y = same_text x.key y.key && nat_eq x.result_completion_id y.result_completion_id && same_text x.name y.name

abbrev peek_promise_command_parts : PeekPromiseCommandMessage → ((List ℕ) × ℕ) × (List ℕ)
peek_promise_command_parts x = ((x.key, x.result_completion_id), x.name)

pub peek_promise_command_tells : ToldBy same_peek_promise_command erased_peek_promise_command
peek_promise_command_tells ignoring =
    parts_tell peek_promise_command_parts (erased_peek_promise_command ignoring) (λ x y h i. record { key = (h i).0.0; result_completion_id = (h i).0.1; name = (h i).1 }) (λ x y h. ap peek_promise_command_parts h)
    (both_tell (both_tell texts_tell numbers_tell) texts_tell)

pub peek_promise_command_coarser : Coarser erased_peek_promise_command
peek_promise_command_coarser x y h = h

abbrev pub erased_complete_promise_command : Bool → CompletePromiseCommandMessage → CompletePromiseCommandMessage
erased_complete_promise_command ignoring x = record {
  key = x.key;
  completion = option_map (erased_completion ignoring) x.completion;
  result_completion_id = x.result_completion_id;
  name = x.name;
}

abbrev pub same_complete_promise_command : Bool → CompletePromiseCommandMessage → CompletePromiseCommandMessage → Bool
same_complete_promise_command ignoring x y =
    same_text x.key y.key
    && option_eq (same_completion ignoring) x.completion y.completion
    && nat_eq x.result_completion_id y.result_completion_id
    && same_text x.name y.name

abbrev complete_promise_command_parts : CompletePromiseCommandMessage → (((List ℕ) × (Option CompletePromiseCommandCompletion)) × ℕ) × (List ℕ)
complete_promise_command_parts x = (((x.key, x.completion), x.result_completion_id), x.name)

pub complete_promise_command_tells : ToldBy same_complete_promise_command erased_complete_promise_command
complete_promise_command_tells ignoring =
    parts_tell complete_promise_command_parts (erased_complete_promise_command ignoring) (λ x y h i. record { key = (h i).0.0.0; completion = (h i).0.0.1; result_completion_id = (h i).0.1; name = (h i).1 }) (λ x y h. ap complete_promise_command_parts h)
    (both_tell (both_tell (both_tell texts_tell (options_tell (completion_tells ignoring))) numbers_tell) texts_tell)

pub complete_promise_command_coarser : Coarser erased_complete_promise_command
complete_promise_command_coarser = coarser_by erased_complete_promise_command (λ x i. record { key = x.key; completion = options_erased (erased_completion true) (erased_completion false) completion_erased x.completion i; result_completion_id = x.result_completion_id; name = x.name })

abbrev pub erased_run_command : Bool → RunCommandMessage → RunCommandMessage
erased_run_command ignoring x = record { result_completion_id = x.result_completion_id; name = x.name }

abbrev pub same_run_command : Bool → RunCommandMessage → RunCommandMessage → Bool
same_run_command ignoring x y = nat_eq x.result_completion_id y.result_completion_id && same_text x.name y.name

abbrev run_command_parts : RunCommandMessage → ℕ × (List ℕ)
run_command_parts x = (x.result_completion_id, x.name)

pub run_command_tells : ToldBy same_run_command erased_run_command
run_command_tells ignoring =
    parts_tell run_command_parts (erased_run_command ignoring) (λ x y h i. record { result_completion_id = (h i).0; name = (h i).1 }) (λ x y h. ap run_command_parts h)
    (both_tell numbers_tell texts_tell)

pub run_command_coarser : Coarser erased_run_command
run_command_coarser x y h = h

abbrev pub erased_send_signal_command : Bool → SendSignalCommandMessage → SendSignalCommandMessage
erased_send_signal_command ignoring x = record {
  target_invocation_id = x.target_invocation_id;
  signal_id = x.signal_id;
  result = x.result;
  entry_name = x.entry_name;
}

abbrev pub same_send_signal_command : Bool → SendSignalCommandMessage → SendSignalCommandMessage → Bool
same_send_signal_command ignoring x y =
    same_text x.target_invocation_id y.target_invocation_id
    && option_eq same_signal_id x.signal_id y.signal_id
    && option_eq same_signal_result x.result y.result
    && same_text x.entry_name y.entry_name

abbrev send_signal_command_parts : SendSignalCommandMessage → (((List ℕ) × (Option SendSignalCommandSignalId)) × (Option SendSignalCommandResult)) × (List ℕ)
send_signal_command_parts x = (((x.target_invocation_id, x.signal_id), x.result), x.entry_name)

pub send_signal_command_tells : ToldBy same_send_signal_command erased_send_signal_command
send_signal_command_tells ignoring =
    parts_tell send_signal_command_parts (erased_send_signal_command ignoring) (λ x y h i. record { target_invocation_id = (h i).0.0.0; signal_id = (h i).0.0.1; result = (h i).0.1; entry_name = (h i).1 }) (λ x y h. ap send_signal_command_parts h)
    (both_tell (both_tell (both_tell texts_tell (in_full (options_decide (deciding signal_id_tells)))) (in_full (options_decide (deciding signal_result_tells)))) texts_tell)

pub send_signal_command_coarser : Coarser erased_send_signal_command
send_signal_command_coarser x y h = h

abbrev pub erased_attach_invocation_command : Bool → AttachInvocationCommandMessage → AttachInvocationCommandMessage
erased_attach_invocation_command ignoring x = record { target = x.target; result_completion_id = x.result_completion_id; name = x.name }

abbrev pub same_attach_invocation_command : Bool → AttachInvocationCommandMessage → AttachInvocationCommandMessage → Bool
same_attach_invocation_command ignoring x y =
    option_eq same_invocation_target x.target y.target
    && nat_eq x.result_completion_id y.result_completion_id
    && same_text x.name y.name

abbrev attach_invocation_command_parts : AttachInvocationCommandMessage → ((Option InvocationTarget) × ℕ) × (List ℕ)
attach_invocation_command_parts x = ((x.target, x.result_completion_id), x.name)

pub attach_invocation_command_tells : ToldBy same_attach_invocation_command erased_attach_invocation_command
attach_invocation_command_tells ignoring =
    parts_tell attach_invocation_command_parts (erased_attach_invocation_command ignoring) (λ x y h i. record { target = (h i).0.0; result_completion_id = (h i).0.1; name = (h i).1 }) (λ x y h. ap attach_invocation_command_parts h)
    (both_tell (both_tell (in_full (options_decide (deciding invocation_target_tells))) numbers_tell) texts_tell)

pub attach_invocation_command_coarser : Coarser erased_attach_invocation_command
attach_invocation_command_coarser x y h = h

abbrev pub erased_get_invocation_output_command : Bool → GetInvocationOutputCommandMessage → GetInvocationOutputCommandMessage
erased_get_invocation_output_command ignoring x = record { target = x.target; result_completion_id = x.result_completion_id; name = x.name }

abbrev pub same_get_invocation_output_command : Bool → GetInvocationOutputCommandMessage → GetInvocationOutputCommandMessage → Bool
same_get_invocation_output_command ignoring x y =
    option_eq same_invocation_target x.target y.target
    && nat_eq x.result_completion_id y.result_completion_id
    && same_text x.name y.name

abbrev get_invocation_output_command_parts : GetInvocationOutputCommandMessage → ((Option InvocationTarget) × ℕ) × (List ℕ)
get_invocation_output_command_parts x = ((x.target, x.result_completion_id), x.name)

pub get_invocation_output_command_tells : ToldBy same_get_invocation_output_command erased_get_invocation_output_command
get_invocation_output_command_tells ignoring =
    parts_tell get_invocation_output_command_parts (erased_get_invocation_output_command ignoring) (λ x y h i. record { target = (h i).0.0; result_completion_id = (h i).0.1; name = (h i).1 }) (λ x y h. ap get_invocation_output_command_parts h)
    (both_tell (both_tell (in_full (options_decide (deciding invocation_target_tells))) numbers_tell) texts_tell)

pub get_invocation_output_command_coarser : Coarser erased_get_invocation_output_command
get_invocation_output_command_coarser x y h = h

abbrev pub erased_complete_awakeable_command : Bool → CompleteAwakeableCommandMessage → CompleteAwakeableCommandMessage
erased_complete_awakeable_command ignoring x = record {
  awakeable_id = x.awakeable_id;
  result = option_map (erased_awakeable_result ignoring) x.result;
  name = x.name;
}

abbrev pub same_complete_awakeable_command : Bool → CompleteAwakeableCommandMessage → CompleteAwakeableCommandMessage → Bool
same_complete_awakeable_command ignoring x y =
    same_text x.awakeable_id y.awakeable_id
    && option_eq (same_awakeable_result ignoring) x.result y.result
    && same_text x.name y.name

abbrev complete_awakeable_command_parts : CompleteAwakeableCommandMessage → ((List ℕ) × (Option CompleteAwakeableCommandResult)) × (List ℕ)
complete_awakeable_command_parts x = ((x.awakeable_id, x.result), x.name)

pub complete_awakeable_command_tells : ToldBy same_complete_awakeable_command erased_complete_awakeable_command
complete_awakeable_command_tells ignoring =
    parts_tell complete_awakeable_command_parts (erased_complete_awakeable_command ignoring) (λ x y h i. record { awakeable_id = (h i).0.0; result = (h i).0.1; name = (h i).1 }) (λ x y h. ap complete_awakeable_command_parts h)
    (both_tell (both_tell texts_tell (options_tell (awakeable_result_tells ignoring))) texts_tell)

pub complete_awakeable_command_coarser : Coarser erased_complete_awakeable_command
complete_awakeable_command_coarser = coarser_by erased_complete_awakeable_command (λ x i. record { awakeable_id = x.awakeable_id; result = options_erased (erased_awakeable_result true) (erased_awakeable_result false) awakeable_result_erased x.result i; name = x.name })
