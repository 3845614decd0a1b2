use Rattle.std.proofs.Common.{◌≡◌, take}
use Rattle.std.specs.List.{flat_map}
use Rattle.protocol_wire.specs.Spelling.{varint_spelling}
use Rattle.protocol_wire.specs.Lengths.{counted_bytes}
use Rattle.protocol_messages.proofs.leaf_lengths.count_numbers.Given as goal

abbrev pub invariant-loop-number : goal.invariant-loop-number
invariant-loop-number l = l.len ≡ counted_bytes l.before (flat_map varint_spelling (take l.number-index l.numbers))
