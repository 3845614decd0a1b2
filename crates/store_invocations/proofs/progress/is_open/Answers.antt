use Rattle.std.proofs.Common.{◌≡◌, sym, subst}
use Rattle.journal_model.specs.Journal.{is_open}
use Rattle.journal_model.specs.Cause.{those_that_hold}
use Rattle.store_refusals.specs.RefusalConditions.{IsRefused}
use Rattle.store_invocations.specs.Rows.{known_tests}
use Rattle.store_invocations.proofs.Reading.{decided_err}
use Rattle.store_invocations.proofs.Telling.{open_is}
use Rattle.store_invocations.proofs.progress.is_open.Goals as goal

pub returns-clause-told : goal.returns-clause-told
returns-clause-told g c clean events store =
    let known = c.in_ok-row.ensures.decided clean events store in
    (known.0, open_is events c.args.id.now c.in_ok-row.row c.is_none-open.result known.1 c.is_none-open.ensures)

pub returns-in_err-row-clause-told : goal.returns-in_err-row-clause-told
returns-in_err-row-clause-told g c clean events store =
    decided_err (known_tests events c.args.id.now) (λ answer. answer ≡ is_open events c.args.id.now) c.from_residual.result c.from_residual.ensures.1 (λ why gives.
    subst (IsRefused (those_that_hold (known_tests events c.args.id.now))) (sym gives) (c.in_err-row.ensures.decided clean events store))
