use Rattle.std.proofs.Common.{◌≡◌, List, take, map}
use Rattle.std.specs.List.{flat_map}
use Rattle.protocol_wire.specs.Spelling.{varint_spelling}
use Rattle.protocol_wire.specs.Parts.{part_spelling, repeated_bytes}
use Rattle.protocol_wire.specs.Lengths.{counted_bytes}
use Rattle.protocol_table.specs.declared.table.suspension_v6.TheConstants.{WAITING_NAMED_SIGNALS}
use Rattle.protocol_records.specs.declared.future.Future.{Future}
use Rattle.protocol_messages.specs.Leaves.{completions_of, signals_of, named_signals_of}
use Rattle.protocol_messages.proofs.leaf_lengths.+count_leaves.Given as goal

-- those of each node so far, in order
abbrev leaves_in : {Leaf : Type 0} → (Future → List Leaf) → List Future → List Leaf
leaves_in leaves fs = flat_map (λ found. found) (map leaves fs)

abbrev pub invariant-loop-nested : goal.invariant-loop-nested
invariant-loop-nested l =
    (l.lengths.completions ≡ counted_bytes l.initial.lengths.completions (flat_map varint_spelling (leaves_in completions_of (take l.nested-index l.nested-items))))
    × (l.lengths.signals ≡ counted_bytes l.initial.lengths.signals (flat_map varint_spelling (leaves_in signals_of (take l.nested-index l.nested-items))))
    × (l.lengths.named_signals ≡ counted_bytes l.initial.lengths.named_signals (part_spelling (repeated_bytes WAITING_NAMED_SIGNALS.number (leaves_in named_signals_of (take l.nested-index l.nested-items)))))
