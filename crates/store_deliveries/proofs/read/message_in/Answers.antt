use Rattle.std.proofs.Common.{◌∙◌}
use Rattle.store_deliveries.proofs.Rows.{numbers_same, row_same}
use Rattle.store_deliveries.proofs.read.message_in.Goals as goal

pub returns-in-Some-2 : goal.returns-in-Some-2
returns-in-Some-2 c owed fits kept =
    let same = numbers_same c.args.row.now c.in-Some.number c.in-Some.place owed c.in-Some.ensures.found fits kept in
    row_same c.in-Some.number c.in-Some.place c.in-Some-2.sender owed same.0 same.1 ((rw c.in-Some-2.is at c.in_ok-sender.ensures.found) ∙ same.2)
