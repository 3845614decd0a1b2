-- The canonical payload of each record is read again, to the same value.
use Rattle.std.specs.Prelude.{ℕ, ◌-◌, ◌<◌, ◌^◌, length, map, option_map, refl, ◌≡◌, [], ◌∷◌, Option, Some, None, IfSome}
use Rattle.std.specs.List.{AllByRecursion}
use Rattle.std.proofs.Common.{sym, ap, ◌∙◌}
use Rattle.protocol_wire.specs.Check.{payload_fault}
use Rattle.protocol_wire.specs.Parts.{payload_of, bytes_if, optional_bytes}
use Rattle.protocol_wire.specs.DecodingAnswers.{IsRead}
use Rattle.protocol_wire.specs.Selection.{last_run, first_present, last_number, last_bytes, texts}
use Rattle.protocol_table.specs.Table.{descriptors_of}
use Rattle.protocol_table.specs.declared.table.RecordType.TheVariants as types
use Rattle.protocol_table.specs.declared.table.value.TheConstants as value
use Rattle.protocol_table.specs.declared.table.header.TheConstants as header
use Rattle.protocol_table.specs.declared.table.failure_metadata.TheConstants as failure_metadata
use Rattle.protocol_table.specs.declared.table.failure.TheConstants as failure
use Rattle.protocol_table.specs.declared.table.state_entry.TheConstants as state_entry
use Rattle.protocol_table.specs.declared.table.start.TheConstants as start
use Rattle.protocol_table.specs.declared.table.input_command.TheConstants as input_command
use Rattle.protocol_table.specs.declared.table.sleep_command.TheConstants as sleep_command
use Rattle.protocol_table.specs.declared.table.awaiting_on.TheConstants as awaiting_on
use Rattle.protocol_table.specs.declared.table.state_keys.TheConstants as state_keys
use Rattle.protocol_table.specs.declared.table.suspension.TheConstants as suspension
use Rattle.protocol_table.specs.declared.table.suspension_v6.TheConstants as suspension_v6
use Rattle.protocol_table.specs.declared.table.output_command.TheConstants as output_command
use Rattle.protocol_wire.proofs.Holds.{u64_holds, u32_holds, bool_holds, bytes_holds, text_holds, optional_text_holds, optional_record_holds, records_hold, lengths_fit, payload_holds, optional_sound, optional_reads_back, each_sound, each_reads_back, repeated_bytes_hold, texts_hold, numbers_hold, Reads, read_back, LengthFits}
use Rattle.protocol_wire.proofs.Back.{u64_back, u32_back, bool_back, text_back, optional_text_back, optional_record_back, records_back, texts_back, numbers_back, held_among, run-fields_of}
use Rattle.protocol_records.specs.declared.end.EndMessage.{EndMessage}
use Rattle.protocol_records.specs.Value.{value_of, value_parts, ValueFits}
use Rattle.protocol_records.specs.Header.{header_of, header_parts, HeaderFits}
use Rattle.protocol_records.specs.FailureMetadata.{failure_metadata_of, failure_metadata_parts, FailureMetadataFits}
use Rattle.protocol_records.specs.Failure.{failure_of, failure_parts, FailureFits}
use Rattle.protocol_records.specs.StateEntry.{state_entry_of, state_entry_parts, StateEntryFits}
use Rattle.protocol_records.specs.Start.{start_message_of, start_parts, StartFits}
use Rattle.protocol_records.specs.InputCommand.{input_command_of, input_command_parts, InputCommandFits}
use Rattle.protocol_records.specs.SleepCommand.{sleep_command_of, sleep_command_parts, SleepCommandFits}
use Rattle.protocol_records.specs.End.{end_message_of, end_parts, EndFits}
use Rattle.protocol_records.specs.Future.{future_of, future_parts, FutureFits}
use Rattle.protocol_records.specs.ReadBackFuture.{future_reads}
use Rattle.protocol_records.specs.AwaitingOn.{awaiting_on_of, awaiting_on_parts, AwaitingOnFits}
use Rattle.protocol_records.specs.StateKeys.{state_keys_of, state_keys_parts, StateKeysFits}
use Rattle.protocol_records.specs.Suspension.{suspension_of, suspension_parts, SuspensionFits}
use Rattle.protocol_records.specs.SuspensionV6.{suspension_v6_of, suspension_v6_parts, SuspensionV6Fits}
use Rattle.protocol_records.specs.declared.void.Void.{Void}
use Rattle.protocol_records.specs.Void.{void_of, void_parts, VoidFits}
use Rattle.protocol_records.specs.declared.output_command.OutputCommandResult.{OutputCommandResult}
use Rattle.protocol_records.specs.declared.output_command.OutputCommandResult.TheVariants as results
use Rattle.protocol_records.specs.declared.failure.Failure.{Failure}
use Rattle.protocol_records.specs.declared.value.Value.{Value}
use Rattle.protocol_records.specs.OutputCommand.{output_command_of, output_command_parts, OutputCommandFits, output_choice}
use Rattle.protocol_records.specs.Choice.{ChoiceFits, choice_parts, chosen_in, first_spelled, second_spelled}
use Rattle.protocol_records.specs.ChoiceBack.{first_sound, second_sound}

pub value_reads : Reads types.Value value_of value_parts ValueFits
value_reads levels v h small =
    let ps = value_parts v in
    let below = payload_fault (levels - 1) in
    let table = descriptors_of types.Value in
    read_back levels types.Value value_of ps v h.level small (
      bytes_holds below table value.CONTENT.number v.content (refl, refl),
      tt,
    ) (λ i. record {
      content = text_back value.CONTENT.number v.content ps refl i;
    })

pub header_reads : Reads types.Header header_of header_parts HeaderFits
header_reads levels v h small =
    let ps = header_parts v in
    let below = payload_fault (levels - 1) in
    let table = descriptors_of types.Header in
    read_back levels types.Header header_of ps v h.level small (
      text_holds below table header.KEY.number v.key (refl, refl) h.key,
      (
        text_holds below table header.VALUE.number v.value (refl, refl) h.value,
        tt,
      ),
    ) (λ i. record {
      key = text_back header.KEY.number v.key ps refl i;
      value = text_back header.VALUE.number v.value ps refl i;
    })

pub failure_metadata_reads : Reads types.FailureMetadata failure_metadata_of failure_metadata_parts FailureMetadataFits
failure_metadata_reads levels v h small =
    let ps = failure_metadata_parts v in
    let below = payload_fault (levels - 1) in
    let table = descriptors_of types.FailureMetadata in
    read_back levels types.FailureMetadata failure_metadata_of ps v h.level small (
      text_holds below table failure_metadata.KEY.number v.key (refl, refl) h.key,
      (
        text_holds below table failure_metadata.VALUE.number v.value (refl, refl) h.value,
        tt,
      ),
    ) (λ i. record {
      key = text_back failure_metadata.KEY.number v.key ps refl i;
      value = text_back failure_metadata.VALUE.number v.value ps refl i;
    })

pub failure_reads : Reads types.Failure failure_of failure_parts FailureFits
failure_reads levels v h small =
    let ps = failure_parts v in
    let below = payload_fault (levels - 1) in
    let table = descriptors_of types.Failure in
    let lengths = lengths_fit ps small in
    read_back levels types.Failure failure_of ps v h.level small (
      u32_holds below table failure.CODE.number v.code (refl, refl) h.code,
      (
        text_holds below table failure.MESSAGE.number v.message (refl, refl) h.message,
        (
          records_hold below table failure.METADATA.number types.FailureMetadata (map (λ r. payload_of (failure_metadata_parts r)) v.metadata) (refl, refl) (each_sound (levels - 1) types.FailureMetadata failure_metadata_of (λ r. payload_of (failure_metadata_parts r)) (FailureMetadataFits (levels - 1)) (failure_metadata_reads (levels - 1)) v.metadata h.metadata lengths.1.1.0),
          tt,
        ),
      ),
    ) (λ i. record {
      code = u32_back failure.CODE.number v.code ps refl h.code i;
      message = text_back failure.MESSAGE.number v.message ps refl i;
      metadata = records_back (failure_metadata_of (levels - 1)) (λ r. payload_of (failure_metadata_parts r)) failure.METADATA.number v.metadata ps refl (each_reads_back (levels - 1) types.FailureMetadata failure_metadata_of (λ r. payload_of (failure_metadata_parts r)) (FailureMetadataFits (levels - 1)) (failure_metadata_reads (levels - 1)) v.metadata h.metadata lengths.1.1.0) i;
    })

pub state_entry_reads : Reads types.StateEntry state_entry_of state_entry_parts StateEntryFits
state_entry_reads levels v h small =
    let ps = state_entry_parts v in
    let below = payload_fault (levels - 1) in
    let table = descriptors_of types.StateEntry in
    read_back levels types.StateEntry state_entry_of ps v h.level small (
      bytes_holds below table state_entry.KEY.number v.key (refl, refl),
      (
        bytes_holds below table state_entry.VALUE.number v.value (refl, refl),
        tt,
      ),
    ) (λ i. record {
      key = text_back state_entry.KEY.number v.key ps refl i;
      value = text_back state_entry.VALUE.number v.value ps refl i;
    })

pub start_reads : Reads types.Start start_message_of start_parts StartFits
start_reads levels v h small =
    let ps = start_parts v in
    let below = payload_fault (levels - 1) in
    let table = descriptors_of types.Start in
    let lengths = lengths_fit ps small in
    read_back levels types.Start start_message_of ps v h.level small (
      bytes_holds below table start.ID.number v.id (refl, refl),
      (
        text_holds below table start.DEBUG_ID.number v.debug_id (refl, refl) h.debug_id,
        (
          u32_holds below table start.KNOWN_ENTRIES.number v.known_entries (refl, refl) h.known_entries,
          (
            records_hold below table start.STATE_MAP.number types.StateEntry (map (λ r. payload_of (state_entry_parts r)) v.state_map) (refl, refl) (each_sound (levels - 1) types.StateEntry state_entry_of (λ r. payload_of (state_entry_parts r)) (StateEntryFits (levels - 1)) (state_entry_reads (levels - 1)) v.state_map h.state_map lengths.1.1.1.0),
            (
              bool_holds below table start.PARTIAL_STATE.number v.partial_state (refl, refl),
              (
                text_holds below table start.KEY.number v.key (refl, refl) h.key,
                (
                  u32_holds below table start.RETRY_COUNT_SINCE_LAST_STORED_ENTRY.number v.retry_count_since_last_stored_entry (refl, refl) h.retry_count_since_last_stored_entry,
                  (
                    u64_holds below table start.DURATION_SINCE_LAST_STORED_ENTRY.number v.duration_since_last_stored_entry (refl, refl) h.duration_since_last_stored_entry,
                    (
                      u64_holds below table start.RANDOM_SEED.number v.random_seed (refl, refl) h.random_seed,
                      (
                        optional_text_holds below table start.SCOPE.number v.scope (refl, refl) h.scope,
                        (
                          optional_text_holds below table start.LIMIT_KEY.number v.limit_key (refl, refl) h.limit_key,
                          (
                            optional_text_holds below table start.IDEMPOTENCY_KEY.number v.idempotency_key (refl, refl) h.idempotency_key,
                            tt,
                          ),
                        ),
                      ),
                    ),
                  ),
                ),
              ),
            ),
          ),
        ),
      ),
    ) (λ i. record {
      id = text_back start.ID.number v.id ps refl i;
      debug_id = text_back start.DEBUG_ID.number v.debug_id ps refl i;
      known_entries = u32_back start.KNOWN_ENTRIES.number v.known_entries ps refl h.known_entries i;
      state_map = records_back (state_entry_of (levels - 1)) (λ r. payload_of (state_entry_parts r)) start.STATE_MAP.number v.state_map ps refl (each_reads_back (levels - 1) types.StateEntry state_entry_of (λ r. payload_of (state_entry_parts r)) (StateEntryFits (levels - 1)) (state_entry_reads (levels - 1)) v.state_map h.state_map lengths.1.1.1.0) i;
      partial_state = bool_back start.PARTIAL_STATE.number v.partial_state ps refl i;
      key = text_back start.KEY.number v.key ps refl i;
      retry_count_since_last_stored_entry = u32_back start.RETRY_COUNT_SINCE_LAST_STORED_ENTRY.number v.retry_count_since_last_stored_entry ps refl h.retry_count_since_last_stored_entry i;
      duration_since_last_stored_entry = u64_back start.DURATION_SINCE_LAST_STORED_ENTRY.number v.duration_since_last_stored_entry ps refl i;
      random_seed = u64_back start.RANDOM_SEED.number v.random_seed ps refl i;
      scope = optional_text_back start.SCOPE.number v.scope ps refl i;
      limit_key = optional_text_back start.LIMIT_KEY.number v.limit_key ps refl i;
      idempotency_key = optional_text_back start.IDEMPOTENCY_KEY.number v.idempotency_key ps refl i;
    })

pub input_command_reads : Reads types.InputCommand input_command_of input_command_parts InputCommandFits
input_command_reads levels v h small =
    let ps = input_command_parts v in
    let below = payload_fault (levels - 1) in
    let table = descriptors_of types.InputCommand in
    let lengths = lengths_fit ps small in
    read_back levels types.InputCommand input_command_of ps v h.level small (
      records_hold below table input_command.HEADERS.number types.Header (map (λ r. payload_of (header_parts r)) v.headers) (refl, refl) (each_sound (levels - 1) types.Header header_of (λ r. payload_of (header_parts r)) (HeaderFits (levels - 1)) (header_reads (levels - 1)) v.headers h.headers lengths.0),
      (
        text_holds below table input_command.NAME.number v.name (refl, refl) h.name,
        (
          optional_record_holds below table input_command.VALUE.number types.Value (option_map (λ r. payload_of (value_parts r)) v.value) (refl, refl) (optional_sound (levels - 1) types.Value value_of (λ r. payload_of (value_parts r)) (ValueFits (levels - 1)) (value_reads (levels - 1)) v.value h.value lengths.1.1.0),
          tt,
        ),
      ),
    ) (λ i. record {
      headers = records_back (header_of (levels - 1)) (λ r. payload_of (header_parts r)) input_command.HEADERS.number v.headers ps refl (each_reads_back (levels - 1) types.Header header_of (λ r. payload_of (header_parts r)) (HeaderFits (levels - 1)) (header_reads (levels - 1)) v.headers h.headers lengths.0) i;
      name = text_back input_command.NAME.number v.name ps refl i;
      value = optional_record_back (value_of (levels - 1)) (λ r. payload_of (value_parts r)) input_command.VALUE.number v.value ps refl (optional_reads_back (levels - 1) types.Value value_of (λ r. payload_of (value_parts r)) (ValueFits (levels - 1)) (value_reads (levels - 1)) v.value h.value lengths.1.1.0) i;
    })

pub sleep_command_reads : Reads types.SleepCommand sleep_command_of sleep_command_parts SleepCommandFits
sleep_command_reads levels v h small =
    let ps = sleep_command_parts v in
    let below = payload_fault (levels - 1) in
    let table = descriptors_of types.SleepCommand in
    read_back levels types.SleepCommand sleep_command_of ps v h.level small (
      u64_holds below table sleep_command.WAKE_UP_TIME.number v.wake_up_time (refl, refl) h.wake_up_time,
      (
        u32_holds below table sleep_command.RESULT_COMPLETION_ID.number v.result_completion_id (refl, refl) h.result_completion_id,
        (
          text_holds below table sleep_command.NAME.number v.name (refl, refl) h.name,
          tt,
        ),
      ),
    ) (λ i. record {
      wake_up_time = u64_back sleep_command.WAKE_UP_TIME.number v.wake_up_time ps refl i;
      result_completion_id = u32_back sleep_command.RESULT_COMPLETION_ID.number v.result_completion_id ps refl h.result_completion_id i;
      name = text_back sleep_command.NAME.number v.name ps refl i;
    })

pub end_reads : Reads types.End end_message_of end_parts EndFits
end_reads levels v h small = read_back levels types.End end_message_of (end_parts v) v h.level small tt refl

pub awaiting_on_reads : Reads types.AwaitingOn awaiting_on_of awaiting_on_parts AwaitingOnFits
awaiting_on_reads levels v h small =
    let ps = awaiting_on_parts v in
    let below = payload_fault (levels - 1) in
    let table = descriptors_of types.AwaitingOn in
    let lengths = lengths_fit ps small in
    read_back levels types.AwaitingOn awaiting_on_of ps v h.level small (
      optional_record_holds below table awaiting_on.AWAITING_ON.number types.Future (option_map (λ r. payload_of (future_parts r)) v.awaiting_on) (refl, refl) (optional_sound (levels - 1) types.Future future_of (λ r. payload_of (future_parts r)) (FutureFits (levels - 1)) (future_reads (levels - 1)) v.awaiting_on h.awaiting_on lengths.0),
      (
        bool_holds below table awaiting_on.EXECUTING_SIDE_EFFECTS.number v.executing_side_effects (refl, refl),
        tt,
      ),
    ) (λ i. record {
      awaiting_on = optional_record_back (future_of (levels - 1)) (λ r. payload_of (future_parts r)) awaiting_on.AWAITING_ON.number v.awaiting_on ps refl (optional_reads_back (levels - 1) types.Future future_of (λ r. payload_of (future_parts r)) (FutureFits (levels - 1)) (future_reads (levels - 1)) v.awaiting_on h.awaiting_on lengths.0) i;
      executing_side_effects = bool_back awaiting_on.EXECUTING_SIDE_EFFECTS.number v.executing_side_effects ps refl i;
    })

pub state_keys_reads : Reads types.StateKeys state_keys_of state_keys_parts StateKeysFits
state_keys_reads levels v h small =
    let ps = state_keys_parts v in
    let below = payload_fault (levels - 1) in
    let table = descriptors_of types.StateKeys in
    read_back levels types.StateKeys state_keys_of ps v h.level small (
      repeated_bytes_hold below table state_keys.KEYS.number v.keys (refl, refl),
      tt,
    ) (λ i. record {
      keys = texts_back state_keys.KEYS.number v.keys ps refl i;
    })

pub suspension_reads : Reads types.Suspension suspension_of suspension_parts SuspensionFits
suspension_reads levels v h small =
    let ps = suspension_parts v in
    let below = payload_fault (levels - 1) in
    let table = descriptors_of types.Suspension in
    let lengths = lengths_fit ps small in
    read_back levels types.Suspension suspension_of ps v h.level small (
      optional_record_holds below table suspension.AWAITING_ON.number types.Future (option_map (λ r. payload_of (future_parts r)) v.awaiting_on) (refl, refl) (optional_sound (levels - 1) types.Future future_of (λ r. payload_of (future_parts r)) (FutureFits (levels - 1)) (future_reads (levels - 1)) v.awaiting_on h.awaiting_on lengths.0),
      tt,
    ) (λ i. record {
      awaiting_on = optional_record_back (future_of (levels - 1)) (λ r. payload_of (future_parts r)) suspension.AWAITING_ON.number v.awaiting_on ps refl (optional_reads_back (levels - 1) types.Future future_of (λ r. payload_of (future_parts r)) (FutureFits (levels - 1)) (future_reads (levels - 1)) v.awaiting_on h.awaiting_on lengths.0) i;
    })

pub suspension_v6_reads : Reads types.SuspensionV6 suspension_v6_of suspension_v6_parts SuspensionV6Fits
suspension_v6_reads levels v h small =
    let ps = suspension_v6_parts v in
    let below = payload_fault (levels - 1) in
    let table = descriptors_of types.SuspensionV6 in
    read_back levels types.SuspensionV6 suspension_v6_of ps v h.level small (
      numbers_hold below table suspension_v6.WAITING_COMPLETIONS.number v.waiting_completions (refl, refl) h.waiting_completions,
      (
        numbers_hold below table suspension_v6.WAITING_SIGNALS.number v.waiting_signals (refl, refl) h.waiting_signals,
        (
          texts_hold below table suspension_v6.WAITING_NAMED_SIGNALS.number v.waiting_named_signals (refl, refl) h.waiting_named_signals,
          tt,
        ),
      ),
    ) (λ i. record {
      waiting_completions = numbers_back suspension_v6.WAITING_COMPLETIONS.number v.waiting_completions ps refl h.waiting_completions i;
      waiting_signals = numbers_back suspension_v6.WAITING_SIGNALS.number v.waiting_signals ps refl h.waiting_signals i;
      waiting_named_signals = texts_back suspension_v6.WAITING_NAMED_SIGNALS.number v.waiting_named_signals ps refl i;
    })

pub void_reads : Reads types.Void void_of void_parts VoidFits
void_reads levels v h small = read_back levels types.Void void_of (void_parts v) v h.level small tt refl

-- of the fields of the result alone
output_result_back : (levels : ℕ) (o : Option OutputCommandResult) → ChoiceFits output_choice (levels - 1) o → AllByRecursion LengthFits (bytes_if (first_spelled output_choice o)) → AllByRecursion LengthFits (bytes_if (second_spelled output_choice o)) → chosen_in output_choice levels (last_run (held_among output_command.RESULT (choice_parts output_choice o))) ≡ o
unfolding texts last_bytes last_number
output_result_back levels None h k0 k1 = refl
output_result_back levels (Some (results.Value v)) h k0 k1 =
    ap (λ (o : Option Value). first_present (option_map (λ v. results.Value v) o) None) (optional_record_back (value_of (levels - 1)) (λ r. payload_of (value_parts r)) output_command.VALUE.number (Some v) (optional_bytes output_command.VALUE.number (Some (payload_of (value_parts v))) ∷ []) refl (sym (value_reads (levels - 1) v h k0.0).value))
output_result_back levels (Some (results.Failure f)) h k0 k1 =
    ap (λ (o : Option Failure). option_map (λ f. results.Failure f) o) (optional_record_back (failure_of (levels - 1)) (λ r. payload_of (failure_parts r)) output_command.FAILURE.number (Some f) (optional_bytes output_command.FAILURE.number (Some (payload_of (failure_parts f))) ∷ []) refl (sym (failure_reads (levels - 1) f h k1.0).value))

pub output_command_reads : Reads types.OutputCommand output_command_of output_command_parts OutputCommandFits
output_command_reads levels v h small =
    let ps = output_command_parts v in
    let below = payload_fault (levels - 1) in
    let table = descriptors_of types.OutputCommand in
    let lengths = lengths_fit ps small in
    let result = ap (chosen_in output_choice levels) (run-fields_of output_command.RESULT ps) ∙ output_result_back levels v.result h.result lengths.1.0 lengths.1.1.0 in
    read_back levels types.OutputCommand output_command_of ps v h.level small (
      text_holds below table output_command.NAME.number v.name (refl, refl) h.name,
      (
        optional_record_holds below table output_command.VALUE.number types.Value (first_spelled output_choice v.result) (refl, refl) (first_sound output_choice (levels - 1) types.Value value_of (value_reads (levels - 1)) v.result h.result lengths.1.0),
        (
          optional_record_holds below table output_command.FAILURE.number types.Failure (second_spelled output_choice v.result) (refl, refl) (second_sound output_choice (levels - 1) types.Failure failure_of (failure_reads (levels - 1)) v.result h.result lengths.1.1.0),
          tt,
        ),
      ),
    ) (λ i. record {
      result = result i;
      name = text_back output_command.NAME.number v.name ps refl i;
    })
