use Rattle.std.proofs.Common.{◌≡◌, sym, subst, arith, inr, IsTrue}
use Rattle.sqlite.specs.Held.{state}
use Rattle.sqlite.specs.State.{State, HasCleanDisk}
use Rattle.store_tables.specs.Questions.{has_id}
use Rattle.store_refusals.specs.RefusalConditions.{is_circumstance}
use Rattle.store_invocations.specs.Rows.{row_at}
use Rattle.store_invocations.proofs.Reading.{asked_once, found_is, once_of, row_kept, told_err}
use Rattle.store_refusals.proofs.Causes.{read_cause_by}
use Rattle.store_invocations.proofs.row.row_of.Goals as goal

pub returns-clause-told : goal.returns-clause-told
returns-clause-told g c clean events store =
    let old : State = state g.S.Store c.args.tables.now in
    let early : HasCleanDisk old = omega (arith, c.invocation_by_id.ensures.looks.crash.clean) in
    found_is events old (λ r. r.invocations) (has_id c.args.id.now) (row_at events c.args.id.now) c.in_ok-row.row
    (store.keeps early (c.in_ok-row.ensures.open clean)) (row_kept events c.args.id.now) (c.in_ok-row.ensures.found clean)

pub returns-in_err-row-clause-told : goal.returns-in_err-row-clause-told
returns-in_err-row-clause-told g c clean events store =
    let old : State = state g.S.Store c.args.tables.now in
    let early : HasCleanDisk old = omega (arith, c.invocation_by_id.ensures.looks.crash.clean) in
    told_err (λ row. row ≡ row_at events c.args.id.now) c.from_residual.result c.from_residual.ensures.1 (λ why gives.
    inr (subst (λ w. IsTrue (is_circumstance w)) (sym gives)
    (asked_once events old (λ r. r.invocations) (has_id c.args.id.now) _ (c.in_err-row.ensures.open clean) (c.in_err-row.ensures.foreign clean) (store.keeps early)
    (once_of events (λ r. r.invocations) (has_id c.args.id.now) (row_at events c.args.id.now) (row_kept events c.args.id.now)))))

pub returns-in_err-row-clause-cause : goal.returns-in_err-row-clause-cause
returns-in_err-row-clause-cause g c =
    read_cause_by (state g.S.Store c.args.tables.now) (state g.S.Store c.invocation_by_id.new.tables) _ c.from_residual.result c.from_residual.ensures.1 c.in_err-row.ensures.cause
