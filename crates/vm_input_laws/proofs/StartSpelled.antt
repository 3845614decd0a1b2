-- The payloads of the start and of the input are read as these.
use Rattle.std.proofs.Common.{◌≡◌, arith, ◌∙◌, [], ◌∷◌, map, true, refl, sym, ap}
use Rattle.protocol_wire.specs.Parts.{payload_of}
use Rattle.protocol_wire.specs.declared.record.TheConstants.{LEVELS}
use Rattle.protocol_types.specs.declared.message_type.MessageType.TheVariants as types
use Rattle.journal_model.specs.declared.invocation.StateMode.{StateMode}
use Rattle.journal_model.specs.State.{StateMap, StartState, IsOrdered}
use Rattle.journal_model.specs.Spelling.{input_payload}
use Rattle.journal_model.specs.Start.{start_payload_of}
use Rattle.journal_model.specs.Headline.{shown_state}
use Rattle.protocol_records.specs.InputCommand.{input_command_parts}
use Rattle.protocol_records.specs.Start.{start_parts}
use Rattle.protocol_records.specs.ReadBack.{input_command_reads, start_reads}
use Rattle.protocol_stream.specs.Records.{input_record, start_record, state_shown, is_partial, state_entry_record}
use Rattle.protocol_stream.proofs.Frames.{item_at-frame_bytes}
use Rattle.protocol_stream.proofs.RecordSpellings.{inputs_spelled, starts_spelled}
use Rattle.vm_context.specs.Eager.{map_with}
use Rattle.vm_context.specs.StateKnowledge as following
use Rattle.vm_start.specs.Starts.{pairs_of}
use Rattle.vm_input_laws.specs.FirstFrames.{InputsReadBack, StartsReadBack}
use Rattle.vm_input_laws.proofs.Sorted.{sorted_is_made}

pub inputs_read_back : InputsReadBack
inputs_read_back headers input rest h =
    let payload = input_payload headers input in
    let spelled : payload_of (input_command_parts (input_record headers input)) ≡ payload = inputs_spelled headers input in
    let is = input_command_reads LEVELS (input_record headers input) h.fits (rw spelled (omega (arith, h.short))) in record {
      front = item_at-frame_bytes types.InputCommand payload rest refl h.short;
      kind = refl;
      command = refl;
      decoded = λ index. (refl, rw (sym spelled) is);
    }

pairs_back : (state : StateMap) → pairs_of (map state_entry_record state) ≡ state
pairs_back [] = refl
pairs_back (entry ∷ state) = λ i. entry ∷ pairs_back state i

abbrev whole : StateMap → StartState
whole entries = record { is_whole = true; entries = entries }

shows : (mode : StateMode) (state : StateMap) → IsOrdered state → following.start_state_of (is_partial mode) (pairs_of (state_shown mode state)) ≡ shown_state mode state
shows StateMode.Whole state ordered =
    ap whole (ap (map_with []) (pairs_back state) ∙ sorted_is_made state ordered)
shows StateMode.None state ordered = refl

pub starts_read_back : StartsReadBack
starts_read_back new state known_entries retry_count duration rest ordered h =
    let start = start_record new state known_entries retry_count duration in
    let payload = start_payload_of new state known_entries retry_count duration in
    let spelled : payload_of (start_parts start) ≡ payload = starts_spelled new state known_entries retry_count duration in
    let is = start_reads LEVELS start h.fits (rw spelled (omega (arith, h.short))) in (
      record {
        front = item_at-frame_bytes types.Start payload rest refl h.short;
        kind = refl;
        decoded = (refl, rw (sym spelled) is);
      },
      shows new.state state ordered,
    )
