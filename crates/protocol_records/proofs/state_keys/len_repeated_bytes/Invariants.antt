use Rattle.std.proofs.Common.{◌≡◌, take}
use Rattle.protocol_wire.specs.Parts.{part_spelling, repeated_bytes}
use Rattle.protocol_wire.specs.Lengths.{counted_bytes}
use Rattle.protocol_records.proofs.state_keys.len_repeated_bytes.Given as goal

abbrev pub invariant-loop-bytes : goal.invariant-loop-bytes
invariant-loop-bytes l = l.len ≡ counted_bytes l.fn.before (part_spelling (repeated_bytes l.field.number (take l.bytes-index l.all)))
