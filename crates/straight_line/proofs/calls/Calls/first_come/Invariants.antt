-- What is left to look at, on the answers that are left, comes to what all comes to.
use Rattle.std.proofs.Common.{◌≡◌, drop}
use Rattle.straight_line.specs.Combinators.{first_come}
use Rattle.straight_line.proofs.calls.Calls.first_come.Given as goal

abbrev pub invariant-loop-place : goal.invariant-loop-place
invariant-loop-place l = first_come l.place (drop l.place l.handles) l.self ≡ first_come 0 l.handles l.fn.self
