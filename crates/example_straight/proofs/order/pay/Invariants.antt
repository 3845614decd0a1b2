-- Written by tools/steps of src/order.rt: what is left, on the answers that are left, comes to what all rounds do.
use Rattle.std.proofs.Common.{◌≡◌}
use Rattle.straight_line.specs.Rounds.{for_until}
use Rattle.example_straight.specs.Order.{pay-after, pay-attempt}
use Rattle.example_straight.proofs.order.pay.Given as goal

abbrev pub invariant-loop-attempt : goal.invariant-loop-attempt
invariant-loop-attempt l =
    for_until l.attempt 3 tt (pay-attempt l.fn.input) pay-after l.calls
    ≡ for_until 0 3 tt (pay-attempt l.fn.input) pay-after l.initial.calls
