use Rattle.std.proofs.Common.{◌≡◌, sym, subst}
use Rattle.journal_model.specs.Cause.{those_that_hold}
use Rattle.store_refusals.specs.RefusalConditions.{IsRefused}
use Rattle.store_invocations.specs.Rows.{known_tests}
use Rattle.store_invocations.proofs.Reading.{decided_err}
use Rattle.store_invocations.specs.InvocationAnswers.{answer_told, answer_by}
use Rattle.store_invocations.proofs.Putting.{answered, reads_unasked}
use Rattle.sqlite.specs.Held.{state}
use Rattle.store_refusals.proofs.Causes.{err_unasked}
use Rattle.store_invocations.proofs.answering.answer.Goals as goal

pub returns-clause-told : goal.returns-clause-told
returns-clause-told g c clean events store =
    answered events c.args.id.now c.in_ok-row.row c.answer_of-answer.result store.accepted store.read (c.in_ok-row.ensures.decided clean events store) c.answer_of-answer.ensures.read
    c.answer_of-answer.ensures.short

pub returns-in_err-row-clause-told : goal.returns-in_err-row-clause-told
returns-in_err-row-clause-told g c clean events store =
    decided_err (known_tests events c.args.id.now) (λ answer. answer ≡ answer_told events c.args.id.now) c.from_residual.result c.from_residual.ensures.1 (λ why gives.
    subst (IsRefused (those_that_hold (known_tests events c.args.id.now))) (sym gives) (c.in_err-row.ensures.decided clean events store))

pub returns-clause-cause : goal.returns-clause-cause
returns-clause-cause g c =
    err_unasked (state g.S.Store c.args.tables.now) (state g.S.Store c.known_row.new.tables) c.answer_of-answer.result
    (reads_unasked (answer_by c.in_ok-row.row.progress) c.answer_of-answer.result c.answer_of-answer.ensures.read)
