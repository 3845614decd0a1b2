-- Written by tools/steps of src/loops.rt: what is left, on the answers that are left, comes to what all rounds do.
use Rattle.std.proofs.Common.{◌≡◌}
use Rattle.straight_line.specs.Rounds.{for_rounds}
use Rattle.bench_machine.specs.Loops.{sleeps-sleep}
use Rattle.bench_machine.proofs.loops.SleepsStraightLine.run.Given as goal

abbrev pub invariant-loop-sleep : goal.invariant-loop-sleep
invariant-loop-sleep l =
    for_rounds l.sleep 1_000_000 tt sleeps-sleep l.calls
    ≡ for_rounds 0 1_000_000 tt sleeps-sleep l.initial.calls
