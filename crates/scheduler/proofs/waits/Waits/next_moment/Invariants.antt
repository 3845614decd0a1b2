-- The earliest of those that were looked at, and those that are left.
use Rattle.std.proofs.Common.{◌≡◌, fold}
use Rattle.scheduler.specs.PutOff.{earlier, first_moment}
use Rattle.scheduler.proofs.waits.Waits.next_moment.Given as goal

abbrev pub invariant-loop-wait : goal.invariant-loop-wait
invariant-loop-wait l = fold (λ first one. earlier first one.1.until) l.first l.wait-iterator ≡ first_moment l.self
