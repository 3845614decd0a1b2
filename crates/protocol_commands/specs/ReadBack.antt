-- The canonical payload of each command that stays within an invocation is read again, to the same value.
use Rattle.std.specs.Prelude.{◌-◌, refl, option_map, ◌≡◌, ℕ, [], ◌∷◌, Option, Some, None, IfSome}
use Rattle.std.specs.List.{AllByRecursion}
use Rattle.std.proofs.Common.{sym, ap, ◌∙◌}
use Rattle.protocol_wire.specs.Check.{payload_fault}
use Rattle.protocol_wire.specs.Parts.{payload_of, bytes_if, optional_bytes}
use Rattle.protocol_wire.specs.Selection.{last_run, first_present, last_number, last_bytes, texts}
use Rattle.protocol_table.specs.Table.{descriptors_of}
use Rattle.protocol_table.specs.declared.table.RecordType.TheVariants as types
use Rattle.protocol_table.specs.declared.table.clear_all_state_command.TheConstants as clear_all_state_command
use Rattle.protocol_table.specs.declared.table.clear_state_command.TheConstants as clear_state_command
use Rattle.protocol_table.specs.declared.table.get_eager_state_keys_command.TheConstants as get_eager_state_keys_command
use Rattle.protocol_table.specs.declared.table.get_lazy_state_command.TheConstants as get_lazy_state_command
use Rattle.protocol_table.specs.declared.table.get_lazy_state_keys_command.TheConstants as get_lazy_state_keys_command
use Rattle.protocol_table.specs.declared.table.get_promise_command.TheConstants as get_promise_command
use Rattle.protocol_table.specs.declared.table.peek_promise_command.TheConstants as peek_promise_command
use Rattle.protocol_table.specs.declared.table.run_command.TheConstants as run_command
use Rattle.protocol_table.specs.declared.table.set_state_command.TheConstants as set_state_command
use Rattle.protocol_table.specs.declared.table.complete_promise_command.TheConstants as complete_promise_command
use Rattle.protocol_table.specs.declared.table.get_eager_state_command.TheConstants as get_eager_state_command
use Rattle.protocol_wire.proofs.Holds.{text_holds, bytes_holds, optional_record_holds, lengths_fit, optional_sound, optional_reads_back, u32_holds, Reads, read_back, LengthFits}
use Rattle.protocol_wire.proofs.Back.{text_back, optional_record_back, u32_back, held_among, run-fields_of}
use Rattle.protocol_records.specs.StateKeys.{state_keys_of, state_keys_parts, StateKeysFits}
use Rattle.protocol_records.specs.Value.{value_of, value_parts, ValueFits}
use Rattle.protocol_records.specs.ReadBack.{state_keys_reads, value_reads, failure_reads, void_reads}
use Rattle.protocol_records.specs.Failure.{failure_of, failure_parts}
use Rattle.protocol_records.specs.declared.failure.Failure.{Failure}
use Rattle.protocol_records.specs.declared.value.Value.{Value}
use Rattle.protocol_records.specs.Void.{void_of, void_parts}
use Rattle.protocol_records.specs.declared.void.Void.{Void}
use Rattle.protocol_commands.specs.Fields.{clear_all_state_command_of, clear_all_state_command_parts, ClearAllStateCommandFits, clear_state_command_of, clear_state_command_parts, ClearStateCommandFits, get_eager_state_keys_command_of, get_eager_state_keys_command_parts, GetEagerStateKeysCommandFits, get_lazy_state_command_of, get_lazy_state_command_parts, GetLazyStateCommandFits, get_lazy_state_keys_command_of, get_lazy_state_keys_command_parts, GetLazyStateKeysCommandFits, get_promise_command_of, get_promise_command_parts, GetPromiseCommandFits, peek_promise_command_of, peek_promise_command_parts, PeekPromiseCommandFits, run_command_of, run_command_parts, RunCommandFits, set_state_command_of, set_state_command_parts, SetStateCommandFits}
use Rattle.protocol_commands.specs.declared.complete_promise_command.CompletePromiseCommandCompletion.{CompletePromiseCommandCompletion}
use Rattle.protocol_commands.specs.declared.complete_promise_command.CompletePromiseCommandCompletion.TheVariants as completions
use Rattle.protocol_commands.specs.CompletePromiseCommand.{complete_promise_command_of, complete_promise_command_parts, CompletePromiseCommandFits}
use Rattle.protocol_commands.specs.declared.get_eager_state_command.GetEagerStateCommandResult.{GetEagerStateCommandResult}
use Rattle.protocol_commands.specs.declared.get_eager_state_command.GetEagerStateCommandResult.TheVariants as results
use Rattle.protocol_commands.specs.GetEagerStateCommand.{get_eager_state_command_of, get_eager_state_command_parts, GetEagerStateCommandFits}
use Rattle.protocol_records.specs.Choice.{ChoiceFits, choice_parts, chosen_in, first_spelled, second_spelled}
use Rattle.protocol_records.specs.ChoiceBack.{first_sound, second_sound}
use Rattle.protocol_commands.specs.Choices.{promise_choice, eager_choice}

pub clear_all_state_command_reads : Reads types.ClearAllStateCommand clear_all_state_command_of clear_all_state_command_parts ClearAllStateCommandFits
clear_all_state_command_reads levels v h small =
    let ps = clear_all_state_command_parts v in
    let below = payload_fault (levels - 1) in
    let table = descriptors_of types.ClearAllStateCommand in
    read_back levels types.ClearAllStateCommand clear_all_state_command_of ps v h.level small (
      text_holds below table clear_all_state_command.NAME.number v.name (refl, refl) h.name,
      tt,
    ) (λ i. record {
      name = text_back clear_all_state_command.NAME.number v.name ps refl i;
    })

pub clear_state_command_reads : Reads types.ClearStateCommand clear_state_command_of clear_state_command_parts ClearStateCommandFits
clear_state_command_reads levels v h small =
    let ps = clear_state_command_parts v in
    let below = payload_fault (levels - 1) in
    let table = descriptors_of types.ClearStateCommand in
    read_back levels types.ClearStateCommand clear_state_command_of ps v h.level small (
      bytes_holds below table clear_state_command.KEY.number v.key (refl, refl),
      (
        text_holds below table clear_state_command.NAME.number v.name (refl, refl) h.name,
        tt,
      ),
    ) (λ i. record {
      key = text_back clear_state_command.KEY.number v.key ps refl i;
      name = text_back clear_state_command.NAME.number v.name ps refl i;
    })

pub get_eager_state_keys_command_reads : Reads types.GetEagerStateKeysCommand get_eager_state_keys_command_of get_eager_state_keys_command_parts GetEagerStateKeysCommandFits
get_eager_state_keys_command_reads levels v h small =
    let ps = get_eager_state_keys_command_parts v in
    let below = payload_fault (levels - 1) in
    let table = descriptors_of types.GetEagerStateKeysCommand in
    let lengths = lengths_fit ps small in
    read_back levels types.GetEagerStateKeysCommand get_eager_state_keys_command_of ps v h.level small (
      text_holds below table get_eager_state_keys_command.NAME.number v.name (refl, refl) h.name,
      (
        optional_record_holds below table get_eager_state_keys_command.VALUE.number types.StateKeys (option_map (λ r. payload_of (state_keys_parts r)) v.value) (refl, refl) (optional_sound (levels - 1) types.StateKeys state_keys_of (λ r. payload_of (state_keys_parts r)) (StateKeysFits (levels - 1)) (state_keys_reads (levels - 1)) v.value h.value lengths.1.0),
        tt,
      ),
    ) (λ i. record {
      name = text_back get_eager_state_keys_command.NAME.number v.name ps refl i;
      value = optional_record_back (state_keys_of (levels - 1)) (λ r. payload_of (state_keys_parts r)) get_eager_state_keys_command.VALUE.number v.value ps refl (optional_reads_back (levels - 1) types.StateKeys state_keys_of (λ r. payload_of (state_keys_parts r)) (StateKeysFits (levels - 1)) (state_keys_reads (levels - 1)) v.value h.value lengths.1.0) i;
    })

pub get_lazy_state_command_reads : Reads types.GetLazyStateCommand get_lazy_state_command_of get_lazy_state_command_parts GetLazyStateCommandFits
get_lazy_state_command_reads levels v h small =
    let ps = get_lazy_state_command_parts v in
    let below = payload_fault (levels - 1) in
    let table = descriptors_of types.GetLazyStateCommand in
    read_back levels types.GetLazyStateCommand get_lazy_state_command_of ps v h.level small (
      bytes_holds below table get_lazy_state_command.KEY.number v.key (refl, refl),
      (
        u32_holds below table get_lazy_state_command.RESULT_COMPLETION_ID.number v.result_completion_id (refl, refl) h.result_completion_id,
        (
          text_holds below table get_lazy_state_command.NAME.number v.name (refl, refl) h.name,
          tt,
        ),
      ),
    ) (λ i. record {
      key = text_back get_lazy_state_command.KEY.number v.key ps refl i;
      result_completion_id = u32_back get_lazy_state_command.RESULT_COMPLETION_ID.number v.result_completion_id ps refl h.result_completion_id i;
      name = text_back get_lazy_state_command.NAME.number v.name ps refl i;
    })

pub get_lazy_state_keys_command_reads : Reads types.GetLazyStateKeysCommand get_lazy_state_keys_command_of get_lazy_state_keys_command_parts GetLazyStateKeysCommandFits
get_lazy_state_keys_command_reads levels v h small =
    let ps = get_lazy_state_keys_command_parts v in
    let below = payload_fault (levels - 1) in
    let table = descriptors_of types.GetLazyStateKeysCommand in
    read_back levels types.GetLazyStateKeysCommand get_lazy_state_keys_command_of ps v h.level small (
      u32_holds below table get_lazy_state_keys_command.RESULT_COMPLETION_ID.number v.result_completion_id (refl, refl) h.result_completion_id,
      (
        text_holds below table get_lazy_state_keys_command.NAME.number v.name (refl, refl) h.name,
        tt,
      ),
    ) (λ i. record {
      result_completion_id = u32_back get_lazy_state_keys_command.RESULT_COMPLETION_ID.number v.result_completion_id ps refl h.result_completion_id i;
      name = text_back get_lazy_state_keys_command.NAME.number v.name ps refl i;
    })

pub get_promise_command_reads : Reads types.GetPromiseCommand get_promise_command_of get_promise_command_parts GetPromiseCommandFits
get_promise_command_reads levels v h small =
    let ps = get_promise_command_parts v in
    let below = payload_fault (levels - 1) in
    let table = descriptors_of types.GetPromiseCommand in
    read_back levels types.GetPromiseCommand get_promise_command_of ps v h.level small (
      text_holds below table get_promise_command.KEY.number v.key (refl, refl) h.key,
      (
        u32_holds below table get_promise_command.RESULT_COMPLETION_ID.number v.result_completion_id (refl, refl) h.result_completion_id,
        (
          text_holds below table get_promise_command.NAME.number v.name (refl, refl) h.name,
          tt,
        ),
      ),
    ) (λ i. record {
      key = text_back get_promise_command.KEY.number v.key ps refl i;
      result_completion_id = u32_back get_promise_command.RESULT_COMPLETION_ID.number v.result_completion_id ps refl h.result_completion_id i;
      name = text_back get_promise_command.NAME.number v.name ps refl i;
    })

pub peek_promise_command_reads : Reads types.PeekPromiseCommand peek_promise_command_of peek_promise_command_parts PeekPromiseCommandFits
peek_promise_command_reads levels v h small =
    let ps = peek_promise_command_parts v in
    let below = payload_fault (levels - 1) in
    let table = descriptors_of types.PeekPromiseCommand in
    read_back levels types.PeekPromiseCommand peek_promise_command_of ps v h.level small (
      text_holds below table peek_promise_command.KEY.number v.key (refl, refl) h.key,
      (
        u32_holds below table peek_promise_command.RESULT_COMPLETION_ID.number v.result_completion_id (refl, refl) h.result_completion_id,
        (
          text_holds below table peek_promise_command.NAME.number v.name (refl, refl) h.name,
          tt,
        ),
      ),
    ) (λ i. record {
      key = text_back peek_promise_command.KEY.number v.key ps refl i;
      result_completion_id = u32_back peek_promise_command.RESULT_COMPLETION_ID.number v.result_completion_id ps refl h.result_completion_id i;
      name = text_back peek_promise_command.NAME.number v.name ps refl i;
    })

pub run_command_reads : Reads types.RunCommand run_command_of run_command_parts RunCommandFits
run_command_reads levels v h small =
    let ps = run_command_parts v in
    let below = payload_fault (levels - 1) in
    let table = descriptors_of types.RunCommand in
    read_back levels types.RunCommand run_command_of ps v h.level small (
      u32_holds below table run_command.RESULT_COMPLETION_ID.number v.result_completion_id (refl, refl) h.result_completion_id,
      (
        text_holds below table run_command.NAME.number v.name (refl, refl) h.name,
        tt,
      ),
    ) (λ i. record {
      result_completion_id = u32_back run_command.RESULT_COMPLETION_ID.number v.result_completion_id ps refl h.result_completion_id i;
      name = text_back run_command.NAME.number v.name ps refl i;
    })

pub set_state_command_reads : Reads types.SetStateCommand set_state_command_of set_state_command_parts SetStateCommandFits
set_state_command_reads levels v h small =
    let ps = set_state_command_parts v in
    let below = payload_fault (levels - 1) in
    let table = descriptors_of types.SetStateCommand in
    let lengths = lengths_fit ps small in
    read_back levels types.SetStateCommand set_state_command_of ps v h.level small (
      bytes_holds below table set_state_command.KEY.number v.key (refl, refl),
      (
        optional_record_holds below table set_state_command.VALUE.number types.Value (option_map (λ r. payload_of (value_parts r)) v.value) (refl, refl) (optional_sound (levels - 1) types.Value value_of (λ r. payload_of (value_parts r)) (ValueFits (levels - 1)) (value_reads (levels - 1)) v.value h.value lengths.1.0),
        (
          text_holds below table set_state_command.NAME.number v.name (refl, refl) h.name,
          tt,
        ),
      ),
    ) (λ i. record {
      key = text_back set_state_command.KEY.number v.key ps refl i;
      value = optional_record_back (value_of (levels - 1)) (λ r. payload_of (value_parts r)) set_state_command.VALUE.number v.value ps refl (optional_reads_back (levels - 1) types.Value value_of (λ r. payload_of (value_parts r)) (ValueFits (levels - 1)) (value_reads (levels - 1)) v.value h.value lengths.1.0) i;
      name = text_back set_state_command.NAME.number v.name ps refl i;
    })

-- of the fields of the completion alone
completion_back : (levels : ℕ) (o : Option CompletePromiseCommandCompletion) → ChoiceFits promise_choice (levels - 1) o → AllByRecursion LengthFits (bytes_if (first_spelled promise_choice o)) → AllByRecursion LengthFits (bytes_if (second_spelled promise_choice o)) → chosen_in promise_choice levels (last_run (held_among complete_promise_command.COMPLETION (choice_parts promise_choice o))) ≡ o
unfolding texts last_bytes last_number
completion_back levels None h k0 k1 = refl
completion_back levels (Some (completions.CompletionValue c)) h k0 k1 =
    ap (λ (o : Option Value). first_present (option_map (λ c. completions.CompletionValue c) o) None) (optional_record_back (value_of (levels - 1)) (λ r. payload_of (value_parts r)) complete_promise_command.COMPLETION_VALUE.number (Some c) (optional_bytes complete_promise_command.COMPLETION_VALUE.number (Some (payload_of (value_parts c))) ∷ []) refl (sym (value_reads (levels - 1) c h k0.0).value))
completion_back levels (Some (completions.CompletionFailure c)) h k0 k1 =
    ap (λ (o : Option Failure). option_map (λ c. completions.CompletionFailure c) o) (optional_record_back (failure_of (levels - 1)) (λ r. payload_of (failure_parts r)) complete_promise_command.COMPLETION_FAILURE.number (Some c) (optional_bytes complete_promise_command.COMPLETION_FAILURE.number (Some (payload_of (failure_parts c))) ∷ []) refl (sym (failure_reads (levels - 1) c h k1.0).value))

pub complete_promise_command_reads : Reads types.CompletePromiseCommand complete_promise_command_of complete_promise_command_parts CompletePromiseCommandFits
complete_promise_command_reads levels v h small =
    let ps = complete_promise_command_parts v in
    let below = payload_fault (levels - 1) in
    let table = descriptors_of types.CompletePromiseCommand in
    let lengths = lengths_fit ps small in
    let completion = ap (chosen_in promise_choice levels) (run-fields_of complete_promise_command.COMPLETION ps) ∙ completion_back levels v.completion h.completion lengths.1.0 lengths.1.1.0 in
    read_back levels types.CompletePromiseCommand complete_promise_command_of ps v h.level small (
      text_holds below table complete_promise_command.KEY.number v.key (refl, refl) h.key,
      (
        optional_record_holds below table complete_promise_command.COMPLETION_VALUE.number types.Value (first_spelled promise_choice v.completion) (refl, refl) (first_sound promise_choice (levels - 1) types.Value value_of (value_reads (levels - 1)) v.completion h.completion lengths.1.0),
        (
          optional_record_holds below table complete_promise_command.COMPLETION_FAILURE.number types.Failure (second_spelled promise_choice v.completion) (refl, refl) (second_sound promise_choice (levels - 1) types.Failure failure_of (failure_reads (levels - 1)) v.completion h.completion lengths.1.1.0),
          (
            u32_holds below table complete_promise_command.RESULT_COMPLETION_ID.number v.result_completion_id (refl, refl) h.result_completion_id,
            (
              text_holds below table complete_promise_command.NAME.number v.name (refl, refl) h.name,
              tt,
            ),
          ),
        ),
      ),
    ) (λ i. record {
      key = text_back complete_promise_command.KEY.number v.key ps refl i;
      completion = completion i;
      result_completion_id = u32_back complete_promise_command.RESULT_COMPLETION_ID.number v.result_completion_id ps refl h.result_completion_id i;
      name = text_back complete_promise_command.NAME.number v.name ps refl i;
    })

-- of the fields of the result alone
eager_result_back : (levels : ℕ) (o : Option GetEagerStateCommandResult) → ChoiceFits eager_choice (levels - 1) o → AllByRecursion LengthFits (bytes_if (first_spelled eager_choice o)) → AllByRecursion LengthFits (bytes_if (second_spelled eager_choice o)) → chosen_in eager_choice levels (last_run (held_among get_eager_state_command.RESULT (choice_parts eager_choice o))) ≡ o
unfolding texts last_bytes last_number
eager_result_back levels None h k0 k1 = refl
eager_result_back levels (Some (results.Void v)) h k0 k1 =
    ap (λ (o : Option Void). first_present (option_map (λ v. results.Void v) o) None) (optional_record_back (void_of (levels - 1)) (λ r. payload_of (void_parts r)) get_eager_state_command.VOID.number (Some v) (optional_bytes get_eager_state_command.VOID.number (Some (payload_of (void_parts v))) ∷ []) refl (sym (void_reads (levels - 1) v h k0.0).value))
eager_result_back levels (Some (results.Value v)) h k0 k1 =
    ap (λ (o : Option Value). option_map (λ v. results.Value v) o) (optional_record_back (value_of (levels - 1)) (λ r. payload_of (value_parts r)) get_eager_state_command.VALUE.number (Some v) (optional_bytes get_eager_state_command.VALUE.number (Some (payload_of (value_parts v))) ∷ []) refl (sym (value_reads (levels - 1) v h k1.0).value))

pub get_eager_state_command_reads : Reads types.GetEagerStateCommand get_eager_state_command_of get_eager_state_command_parts GetEagerStateCommandFits
get_eager_state_command_reads levels v h small =
    let ps = get_eager_state_command_parts v in
    let below = payload_fault (levels - 1) in
    let table = descriptors_of types.GetEagerStateCommand in
    let lengths = lengths_fit ps small in
    let result = ap (chosen_in eager_choice levels) (run-fields_of get_eager_state_command.RESULT ps) ∙ eager_result_back levels v.result h.result lengths.1.1.0 lengths.1.1.1.0 in
    read_back levels types.GetEagerStateCommand get_eager_state_command_of ps v h.level small (
      bytes_holds below table get_eager_state_command.KEY.number v.key (refl, refl),
      (
        text_holds below table get_eager_state_command.NAME.number v.name (refl, refl) h.name,
        (
          optional_record_holds below table get_eager_state_command.VOID.number types.Void (first_spelled eager_choice v.result) (refl, refl) (first_sound eager_choice (levels - 1) types.Void void_of (void_reads (levels - 1)) v.result h.result lengths.1.1.0),
          (
            optional_record_holds below table get_eager_state_command.VALUE.number types.Value (second_spelled eager_choice v.result) (refl, refl) (second_sound eager_choice (levels - 1) types.Value value_of (value_reads (levels - 1)) v.result h.result lengths.1.1.1.0),
            tt,
          ),
        ),
      ),
    ) (λ i. record {
      key = text_back get_eager_state_command.KEY.number v.key ps refl i;
      name = text_back get_eager_state_command.NAME.number v.name ps refl i;
      result = result i;
    })
