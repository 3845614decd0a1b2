use Rattle.std.proofs.Common.{◌≡◌, take, map}
use Rattle.protocol_wire.specs.Parts.{part_spelling, repeated_bytes, payload_of}
use Rattle.protocol_wire.specs.Lengths.{counted_bytes}
use Rattle.protocol_table.specs.declared.table.future.TheConstants.{NESTED_FUTURES}
use Rattle.protocol_records.specs.Future.{future_parts}
use Rattle.protocol_records.proofs.future.+len_future.Given as goal

abbrev pub invariant-loop-nested : goal.invariant-loop-nested
invariant-loop-nested l = l.len ≡ counted_bytes l.initial.len (part_spelling (repeated_bytes NESTED_FUTURES.number (map (λ f. payload_of (future_parts f)) (take l.nested-index l.nested-items))))
