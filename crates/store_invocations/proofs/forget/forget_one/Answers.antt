use Rattle.std.proofs.Common.{sym, subst}
use Rattle.journal_model.specs.Cause.{those_that_hold}
use Rattle.journal_model.specs.Forgetting.{forget_tests}
use Rattle.store_refusals.specs.RefusalConditions.{IsRefused}
use Rattle.store_invocations.proofs.Reading.{decided_err}
use Rattle.store_invocations.proofs.forget.forget_one.Goals as goal

pub returns-in_err-find_closed-clause-decided : goal.returns-in_err-find_closed-clause-decided
returns-in_err-find_closed-clause-decided g c clean events store =
    decided_err (forget_tests events c.args.id.now) (λ _. Unit {0}) c.from_residual.result c.from_residual.ensures.1 (λ why gives.
    subst (IsRefused (those_that_hold (forget_tests events c.args.id.now))) (sym gives) (c.in_err-find_closed.ensures.decided clean events store))
