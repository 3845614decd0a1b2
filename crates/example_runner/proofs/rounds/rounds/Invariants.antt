-- Written by tools/steps of src/rounds.rt: what is left, on the answers that are left, comes to what all rounds do.
use Rattle.std.proofs.Common.{◌≡◌}
use Rattle.durable_schedule.specs.Straight.{for_rounds}
use Rattle.example_runner.specs.Rounds.{rounds-round}
use Rattle.example_runner.proofs.rounds.rounds.Given as goal

abbrev pub invariant-loop-round : goal.invariant-loop-round
invariant-loop-round l =
    for_rounds l.round 5 tt (rounds-round l.fn.input) l.calls
    ≡ for_rounds 0 5 tt (rounds-round l.fn.input) l.initial.calls
