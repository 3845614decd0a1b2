use Rattle.std.proofs.Common.{◌≡◌, ◌++◌, take}
use Rattle.protocol_wire.specs.Parts.{part_spelling, repeated_bytes}
use Rattle.protocol_wire.proofs.put.put_texts.Given as goal

abbrev pub invariant-loop-text : goal.invariant-loop-text
invariant-loop-text l = l.out.items ≡ l.fn.out.items ++ part_spelling (repeated_bytes l.field.number (take l.text-index l.texts))
