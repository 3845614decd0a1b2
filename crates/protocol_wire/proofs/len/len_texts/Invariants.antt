use Rattle.std.proofs.Common.{◌≡◌, take}
use Rattle.protocol_wire.specs.Parts.{part_spelling, repeated_bytes}
use Rattle.protocol_wire.specs.Lengths.{counted_bytes}
use Rattle.protocol_wire.proofs.len.len_texts.Given as goal

abbrev pub invariant-loop-text : goal.invariant-loop-text
invariant-loop-text l = l.len ≡ counted_bytes l.fn.before (part_spelling (repeated_bytes l.field.number (take l.text-index l.texts)))
