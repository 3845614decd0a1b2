use Rattle.std.proofs.Common.{◌∙◌, sym, subst, ◌∷◌, [], not, ◌&&◌, is_some}
use Rattle.journal_model.specs.Journal.{invocation_begun, is_open}
use Rattle.journal_model.specs.Cause.{open_tests, those_that_hold}
use Rattle.journal_model.specs.declared.cause.Cause.{Cause}
use Rattle.store_refusals.specs.RefusalConditions.{IsRefused}
use Rattle.store_invocations.specs.Rows.{IsOpenRow, known_tests}
use Rattle.store_invocations.proofs.Opened.{closed_by, opened_by}
use Rattle.store_invocations.proofs.Reading.{decided_err}
use Rattle.store_invocations.proofs.Refusing.{refused_more}
use Rattle.store_invocations.proofs.row.open_row.Goals as goal

pub returns-clause-decided : goal.returns-clause-decided
returns-clause-decided g c clean events store =
    opened_by events c.args.id.now c.in_ok-row.row (c.in_ok-row.ensures.decided clean events store).1 (sym c.is_some.ensures ∙ c.if-is_some.false)

pub returns-then-is_some-clause-decided : goal.returns-then-is_some-clause-decided
returns-then-is_some-clause-decided g c clean events store =
    closed_by events c.args.id.now c.in_ok-row.row (c.in_ok-row.ensures.decided clean events store).1 (sym c.is_some.ensures ∙ c.if-is_some.true)

pub returns-in_err-row-clause-decided : goal.returns-in_err-row-clause-decided
returns-in_err-row-clause-decided g c clean events store =
    let id = c.args.id.now in
    let shut = is_some (invocation_begun events id) && not (is_open events id) in
    decided_err (open_tests events id) (IsOpenRow events id) c.from_residual.result c.from_residual.ensures.1 (λ why gives.
    subst (IsRefused (those_that_hold (open_tests events id))) (sym gives)
    (refused_more (known_tests events id) ((shut, Cause.InvocationClosed) ∷ []) _ (c.in_err-row.ensures.decided clean events store)))
