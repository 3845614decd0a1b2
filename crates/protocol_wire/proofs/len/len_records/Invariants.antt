use Rattle.std.proofs.Common.{◌≡◌, take, map}
use Rattle.protocol_wire.specs.Parts.{part_spelling, repeated_bytes, payload_of}
use Rattle.protocol_wire.specs.Lengths.{counted_bytes}
use Rattle.protocol_wire.proofs.len.len_records.Given as goal

abbrev pub invariant-loop-one : goal.invariant-loop-one
invariant-loop-one g l = l.len ≡ counted_bytes l.fn.before (part_spelling (repeated_bytes l.field.number (map (λ r. payload_of (g.R.Record.parts r)) (take l.one-index l.all))))
