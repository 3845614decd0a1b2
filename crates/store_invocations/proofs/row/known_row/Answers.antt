use Rattle.std.proofs.Common.{◌∙◌, sym, subst}
use Rattle.journal_model.specs.Cause.{those_that_hold}
use Rattle.store_refusals.specs.RefusalConditions.{IsRefused}
use Rattle.store_invocations.specs.Rows.{IsRowOf, known_tests}
use Rattle.store_invocations.proofs.Opened.{known_by, unknown_by}
use Rattle.store_invocations.proofs.Reading.{decided_err}
use Rattle.store_invocations.proofs.Refusing.{refused_anyway}
use Rattle.store_invocations.proofs.row.known_row.Goals as goal

pub returns-in-Some-clause-decided : goal.returns-in-Some-clause-decided
returns-in-Some-clause-decided g c clean events store =
    known_by events c.args.id.now c.in-Some.row (sym c.in-Some.is ∙ c.in_ok-found.ensures.told clean events store)

pub returns-in-None-clause-decided : goal.returns-in-None-clause-decided
returns-in-None-clause-decided g c clean events store =
    unknown_by events c.args.id.now (sym c.in-None.is ∙ c.in_ok-found.ensures.told clean events store)

pub returns-in_err-found-clause-decided : goal.returns-in_err-found-clause-decided
returns-in_err-found-clause-decided g c clean events store =
    decided_err (known_tests events c.args.id.now) (IsRowOf events c.args.id.now) c.from_residual.result c.from_residual.ensures.1 (λ why gives.
    subst (IsRefused (those_that_hold (known_tests events c.args.id.now))) (sym gives)
    (refused_anyway (known_tests events c.args.id.now) _ (c.in_err-found.ensures.told clean events store)))
