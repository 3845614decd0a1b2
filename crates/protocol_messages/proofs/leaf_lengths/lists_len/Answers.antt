use Rattle.std.proofs.Common.{◌≡◌, arith, refl}
use Rattle.std.specs.List.{flat_map}
use Rattle.protocol_wire.specs.Spelling.{varint_spelling}
use Rattle.protocol_wire.specs.Parts.{part_spelling, repeated_bytes}
use Rattle.protocol_wire.specs.Lengths.{counted_bytes}
use Rattle.protocol_wire.proofs.Lengths.{measured}
use Rattle.protocol_table.specs.declared.table.suspension_v6.TheConstants.{WAITING_NAMED_SIGNALS}
use Rattle.protocol_records.specs.SuspensionV6.{suspension_v6_parts}
use Rattle.protocol_messages.specs.Leaves.{three_lists}
use Rattle.protocol_messages.proofs.leaf_lengths.lists_len.Goals as goal

pub returns : goal.returns
returns c =
    let lists = three_lists c.args.suspension.now in
    let lengths = c.leaf_lengths-lengths.ensures in
    let completions = c.len_packed-len.ensures (flat_map varint_spelling lists.waiting_completions) lengths.completions in
    let signals = c.len_packed-len-2.ensures (flat_map varint_spelling lists.waiting_signals) lengths.signals in
    let names : c.saturating_add.result ≡ counted_bytes c.len_packed-len-2.result (part_spelling (repeated_bytes WAITING_NAMED_SIGNALS.number lists.waiting_named_signals)) =
    omega (arith, c.saturating_add.ensures, lengths.named_signals) in
    measured (suspension_v6_parts lists) _ (_, completions, (_, signals, (_, names, refl)))
