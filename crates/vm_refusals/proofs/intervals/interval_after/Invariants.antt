use Rattle.std.proofs.Common.{◌≡◌, ◌≤◌, Some}
use Rattle.std.specs.Duration.{max_nanos}
use Rattle.vm_refusals.specs.RetryDecisions.{interval_after}
use Rattle.vm_refusals.proofs.intervals.interval_after.Given as goal

-- the interval so many retries after the first
abbrev pub invariant-loop-retry : goal.invariant-loop-retry
invariant-loop-retry l = (interval_after l.fn.first l.factor.numerator l.factor.denominator l._retry ≡ Some l.interval) × (l.interval ≤ max_nanos)
