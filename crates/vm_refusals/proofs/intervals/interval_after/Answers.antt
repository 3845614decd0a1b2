use Rattle.std.proofs.Common.{◌≤◌, sym, ap, ◌∙◌, arith}
use Rattle.std.specs.Duration.{max_nanos}
use Rattle.vm_refusals.specs.RetryDecisions.{at_most}
use Rattle.vm_refusals.proofs.Growing.{goes-on, stays, past, next-small, cut}
use Rattle.vm_refusals.proofs.intervals.interval_after.Goals as goal

pub returns-then-next-interval : goal.returns-then-next-interval
returns-then-next-interval c =
    cut c.args.most c.loop-retry.interval c.min.result c.min.ensures
    ∙ ap (at_most c.args.most) (sym (stays c.args.first c.args.factor.numerator c.args.factor.denominator c.loop-retry._retry c.loop-retry.interval c.longer-next.result c.args.retries
    c.loop-retry.invariant.0 c.longer-next.ensures c.if-next-interval.true c.loop-retry.invariant.1 (omega (arith, c.loop-retry-test.true))))

pub returns-then-is_past : goal.returns-then-is_past
returns-then-is_past c =
    sym (past c.args.first c.args.factor.numerator c.args.factor.denominator c.args.most c.loop-retry._retry c.loop-retry.interval c.longer-next.result c.args.retries
    c.args.factor.divides c.loop-retry.invariant.0 c.longer-next.ensures (sym c.is_past.ensures ∙ c.if-is_past.true) c.loop-retry-test.true)

pub loop-retry-preserved : goal.loop-retry-preserved
loop-retry-preserved c =
    let small : c.longer-next.result ≤ max_nanos =
    next-small c.args.first c.args.factor.numerator c.args.factor.denominator c.args.most c.loop-retry.interval c.longer-next.result c.loop-retry.invariant.1 c.requires.most c.longer-next.ensures
    (sym c.is_past.ensures ∙ c.if-is_past.false) in
    (goes-on c.args.first c.args.factor.numerator c.args.factor.denominator c.loop-retry._retry c.loop-retry.interval c.longer-next.result c.loop-retry.invariant.0 c.longer-next.ensures small, small)
