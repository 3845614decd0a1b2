use Rattle.std.proofs.Common.{◌∙◌, ℕ, List, take, ap}
use Rattle.std.specs.List.{flat_map}
use Rattle.std.proofs.lemmas.List.{take_all}
use Rattle.protocol_wire.specs.Spelling.{varint_spelling}
use Rattle.protocol_wire.specs.Parts.{part_spelling, repeated_bytes}
use Rattle.protocol_wire.specs.Lengths.{counted_bytes}
use Rattle.protocol_table.specs.declared.table.suspension_v6.TheConstants.{WAITING_NAMED_SIGNALS}
use Rattle.protocol_records.specs.declared.future.Future.{out-Future}
use Rattle.protocol_messages.specs.Leaves.{completions_of, signals_of, named_signals_of}
use Rattle.protocol_messages.proofs.LeafLengths.{counted_node, numbers_apart, names_apart}
use Rattle.protocol_messages.proofs.Preorder.{completions_is, signals_is, named_signals_is}
use Rattle.protocol_messages.proofs.leaf_lengths.+count_leaves.Goals as goal

pub returns-clause-completions : goal.returns-clause-completions
returns-clause-completions t c =
    let items = c.as_slice-nested-items.result.now in
    let f = c.args.future.now in
    let before = c.args.lengths.now.completions in
    let whole = take_all c.loop-nested.nested-index items c.loop-nested-test.false ∙ c.as_slice-nested-items.ensures in
    let own = c.count_numbers-lengths.ensures ∙ ap (λ (xs : List ℕ). counted_bytes before (flat_map varint_spelling xs)) c.as_slice.ensures in
    counted_node (flat_map varint_spelling) numbers_apart completions_of before _ _ (out-Future f).waiting_completions _ (take c.loop-nested.nested-index items) _ own c.loop-nested.invariant.0 whole (completions_is f)

pub returns-clause-signals : goal.returns-clause-signals
returns-clause-signals t c =
    let items = c.as_slice-nested-items.result.now in
    let f = c.args.future.now in
    let before = c.args.lengths.now.signals in
    let whole = take_all c.loop-nested.nested-index items c.loop-nested-test.false ∙ c.as_slice-nested-items.ensures in
    let own = c.count_numbers-lengths-2.ensures ∙ ap (λ (xs : List ℕ). counted_bytes before (flat_map varint_spelling xs)) c.as_slice-2.ensures in
    counted_node (flat_map varint_spelling) numbers_apart signals_of before _ _ (out-Future f).waiting_signals _ (take c.loop-nested.nested-index items) _ own c.loop-nested.invariant.1 whole (signals_is f)

pub returns-clause-named_signals : goal.returns-clause-named_signals
returns-clause-named_signals t c =
    let items = c.as_slice-nested-items.result.now in
    let f = c.args.future.now in
    let whole = take_all c.loop-nested.nested-index items c.loop-nested-test.false ∙ c.as_slice-nested-items.ensures in
    counted_node (λ (names : List (List ℕ)). part_spelling (repeated_bytes WAITING_NAMED_SIGNALS.number names)) (names_apart WAITING_NAMED_SIGNALS.number) named_signals_of c.args.lengths.now.named_signals _ _ (out-Future f).waiting_named_signals _ (take c.loop-nested.nested-index items) _ c.len_texts-lengths.ensures c.loop-nested.invariant.2 whole (named_signals_is f)
