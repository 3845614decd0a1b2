use Rattle.std.proofs.Common.{◌+◌, take, arith}
use Rattle.std.proofs.lemmas.List.{take_more, length-take-le}
use Rattle.store_tables.specs.Questions.{AreInPlace}
use Rattle.store_tables.proofs.Orders.{in_place_push}
use Rattle.store_tables.proofs.order.are_in_place.Goals as goal

pub loop-place-preserved : goal.loop-place-preserved
loop-place-preserved c =
    let es = c.args.entries.now in
    let at = c.loop-place.place in
    let e = c.index-entries-place.result in
    let more : AreInPlace 0 (take (at + 1) es) = rw (take_more es at e c.loop-place-test.true, ← c.index-entries-place.is) (in_place_push 0 (take at es) e c.loop-place.invariant (omega (arith, length-take-le at es (omega arith), c.if-entry-place.false))) in
    more
