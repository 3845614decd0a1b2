use Rattle.std.proofs.Common.{arith, ◌∙◌}
use Rattle.store_deliveries.proofs.Rows.{number_told}
use Rattle.store_deliveries.proofs.owed.number_of.Goals as goal

pub returns-in-Some-clause-told : goal.returns-in-Some-clause-told
returns-in-Some-clause-told c number l is =
    number_told c.as_slice.result.now c.args.row.value c.in-Some.number number c.as_slice.ensures is l c.in-Some.ensures.found

pub returns-in-None-clause-told : goal.returns-in-None-clause-told
returns-in-None-clause-told c number l is = absurd (c.in-None.ensures.none 16 number (omega arith) (c.as_slice.ensures ∙ is))
