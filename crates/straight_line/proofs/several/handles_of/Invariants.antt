-- The handles so far are those of the first outcomes.
use Rattle.std.proofs.Common.{◌≡◌, take}
use Rattle.straight_line.specs.Combinators.{handles_of}
use Rattle.straight_line.proofs.several.handles_of.Given as goal

abbrev pub invariant-loop-outcome : goal.invariant-loop-outcome
invariant-loop-outcome l = l.handles.items ≡ handles_of (take l.outcome-index l.outcomes)
