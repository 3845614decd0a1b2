use Rattle.std.proofs.Common.{arith}
use Rattle.std.proofs.lemmas.Grind.{common_steps}
use Rattle.protocol_wire.proofs.Puts.{varint_spelling_within_more}
use Rattle.protocol_wire.proofs.len.+len_varint_within.Goals as goal

pub returns-clause-length : goal.returns-clause-length
returns-clause-length t c =
    let more = varint_spelling_within_more c.args.most c.args.number c.if-most-eq0.false c.if-number-lt128.false in
    grind (arith, common_steps, more)
