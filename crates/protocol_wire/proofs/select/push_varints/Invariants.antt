use Rattle.std.proofs.Common.{◌≡◌, ◌++◌, length, map}
use Rattle.protocol_wire.specs.Fields.{varints}
use Rattle.protocol_wire.specs.Selection.{low}
use Rattle.protocol_wire.proofs.select.push_varints.Given as goal

abbrev pub invariant-loop-number : goal.invariant-loop-number
invariant-loop-number l = l.numbers ++ map low (varints l.rest) ≡ l.fn.numbers ++ map low (varints l.bytes)

abbrev pub decreases-loop-number : goal.decreases-loop-number
decreases-loop-number l = length l.rest
