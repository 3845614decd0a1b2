use Rattle.std.proofs.Common.{◌≤◌}
use Rattle.store_tables.proofs.Orders.{DoAscendTo}
use Rattle.store_tables.proofs.order.do_ids_ascend.Given as goal

abbrev pub invariant-loop-at : goal.invariant-loop-at
invariant-loop-at l = (1 ≤ l.at) × DoAscendTo (λ x. x.id) l.ids l.at
