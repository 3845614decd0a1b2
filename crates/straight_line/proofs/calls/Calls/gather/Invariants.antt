-- What is left to look at, on the answers that are left, comes to what all comes to.
use Rattle.std.proofs.Common.{◌≡◌, drop}
use Rattle.straight_line.specs.Combinators.{gather, nothing}
use Rattle.straight_line.proofs.calls.Calls.gather.Given as goal

abbrev pub invariant-loop-handle : goal.invariant-loop-handle
invariant-loop-handle l =
    gather l.required l.gathered (drop l.handle-index l.handles) l.self ≡ gather l.required nothing l.handles l.fn.self
