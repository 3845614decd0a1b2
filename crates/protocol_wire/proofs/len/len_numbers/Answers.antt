use Rattle.std.proofs.Common.{◌≡◌, arith}
use Rattle.std.specs.List.{flat_map}
use Rattle.std.proofs.lemmas.Grind.{common_steps}
use Rattle.protocol_wire.specs.Spelling.{varint_spelling}
use Rattle.protocol_wire.specs.Lengths.{counted_bytes}
use Rattle.protocol_wire.proofs.Lengths.{none_counted, some_counted}
use Rattle.protocol_wire.proofs.len.len_numbers.Goals as goal

pub returns-then-packed-eq0 : goal.returns-then-packed-eq0
returns-then-packed-eq0 c =
    let whole : c.loop-number.packed ≡ counted_bytes 0 (flat_map varint_spelling c.args.numbers.now) = grind (arith, common_steps) in
    none_counted c.args.before c.args.field.number c.loop-number.packed (flat_map varint_spelling c.args.numbers.now) (omega arith) whole c.if-packed-eq0.true

pub returns : goal.returns
returns c =
    let whole : c.loop-number.packed ≡ counted_bytes 0 (flat_map varint_spelling c.args.numbers.now) = grind (arith, common_steps) in
    some_counted c.args.before c.args.field.number c.loop-number.packed c.len_tagged_bytes.result (flat_map varint_spelling c.args.numbers.now) c.len_tagged_bytes.ensures whole c.if-packed-eq0.false
