use Rattle.std.proofs.Common.{◌≤◌}
use Rattle.store_tables.proofs.Orders.{DoAscendTo}
use Rattle.store_tables.proofs.order.do_states_ascend.Given as goal

abbrev pub invariant-loop-at : goal.invariant-loop-at
invariant-loop-at l = (1 ≤ l.at) × DoAscendTo (λ x. x.key) l.states l.at
