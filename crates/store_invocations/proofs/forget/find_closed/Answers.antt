use Rattle.std.proofs.Common.{sym, subst}
use Rattle.journal_model.specs.Cause.{those_that_hold}
use Rattle.journal_model.specs.Forgetting.{forget_tests}
use Rattle.store_refusals.specs.RefusalConditions.{IsRefused}
use Rattle.store_invocations.proofs.Forgetting.{closed_free, open_busy, still_unknown}
use Rattle.store_invocations.proofs.Reading.{decided_err}
use Rattle.store_invocations.proofs.forget.find_closed.Goals as goal

pub returns-clause-decided : goal.returns-clause-decided
returns-clause-decided g c clean events store =
    let known = c.in_ok-busy.ensures.told clean events store in
    (closed_free events c.args.id.now c.in_ok-busy.busy known.0 known.1 c.if-busy.false, tt)

pub returns-then-busy-clause-decided : goal.returns-then-busy-clause-decided
returns-then-busy-clause-decided g c clean events store =
    let known = c.in_ok-busy.ensures.told clean events store in
    open_busy events c.args.id.now c.in_ok-busy.busy known.1 c.if-busy.true

pub returns-in_err-busy-clause-decided : goal.returns-in_err-busy-clause-decided
returns-in_err-busy-clause-decided g c clean events store =
    decided_err (forget_tests events c.args.id.now) (λ _. Unit {0}) c.from_residual.result c.from_residual.ensures.1 (λ why gives.
    subst (IsRefused (those_that_hold (forget_tests events c.args.id.now))) (sym gives) (still_unknown events c.args.id.now _ (c.in_err-busy.ensures.told clean events store)))
