-- Written by tools/steps of src/offers.rt: what is left, on the answers that are left, comes to what all rounds do.
use Rattle.std.proofs.Common.{◌≡◌}
use Rattle.straight_line.specs.Rounds.{for_rounds}
use Rattle.example_straight.specs.Offers.{offers-part}
use Rattle.example_straight.proofs.offers.OffersStraightLine.run.Given as goal

abbrev pub invariant-loop-part : goal.invariant-loop-part
invariant-loop-part l =
    for_rounds l.part 3 l.total offers-part l.calls
    ≡ for_rounds 0 3 l.initial.total offers-part l.initial.calls
