use Rattle.std.proofs.Common.{length, ◌≡◌}
use Rattle.protocol_wire.specs.Fields.{are_varints}
use Rattle.protocol_wire.proofs.check.are_varints.Given as goal

abbrev pub invariant-loop-after : goal.invariant-loop-after
invariant-loop-after l = are_varints l.rest ≡ are_varints l.bytes

abbrev pub decreases-loop-after : goal.decreases-loop-after
decreases-loop-after l = length l.rest
