-- Written by tools/steps of src/loops.rt: what is left, on the answers that are left, comes to what all rounds do.
use Rattle.std.proofs.Common.{◌≡◌}
use Rattle.straight_line.specs.Rounds.{for_rounds}
use Rattle.bench_machine.specs.Loops.{effects-effect}
use Rattle.bench_machine.proofs.loops.EffectsStraightLine.run.Given as goal

abbrev pub invariant-loop-effect : goal.invariant-loop-effect
invariant-loop-effect l =
    for_rounds l.effect 1_000_000 tt effects-effect l.calls
    ≡ for_rounds 0 1_000_000 tt effects-effect l.initial.calls
