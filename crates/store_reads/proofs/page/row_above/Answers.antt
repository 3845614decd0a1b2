use Rattle.std.proofs.Common.{◌≡◌, [], sym, subst, arith, inr, Some, slice_get}
use Rattle.sqlite.specs.Held.{state}
use Rattle.sqlite.specs.State.{State, HasCleanDisk}
use Rattle.store_refusals.specs.RefusalConditions.{IsRefused}
use Rattle.store_refusals.proofs.Causes.{read_cause_by}
use Rattle.store_invocations.proofs.Reading.{told_err}
use Rattle.store_reads.specs.Page.{rows_behind}
use Rattle.store_reads.proofs.Deciding.{next_known, row_is}
use Rattle.store_reads.proofs.page.row_above.Goals as goal

pub returns-clause-told : goal.returns-clause-told
returns-clause-told g c clean events store =
    let old : State = state g.S.Store c.args.tables.now in
    let early : HasCleanDisk old = omega (arith, c.invocation_after.ensures.looks.crash.clean) in
    row_is events old (Some c.args.id.now) c.in_ok-row.row (store.keeps early (c.in_ok-row.ensures.open clean)) (c.in_ok-row.ensures.found clean)

pub returns-in_err-row-clause-told : goal.returns-in_err-row-clause-told
returns-in_err-row-clause-told g c clean events store =
    let old : State = state g.S.Store c.args.tables.now in
    let early : HasCleanDisk old = omega (arith, c.invocation_after.ensures.looks.crash.clean) in
    told_err (λ row. row ≡ slice_get (rows_behind events (Some c.args.id.now)) 0) c.from_residual.result c.from_residual.ensures.1 (λ why gives.
    subst (IsRefused []) (sym gives) (inr (next_known events old _ (store.keeps early) (c.in_err-row.ensures.open clean) (c.in_err-row.ensures.foreign clean))))

pub returns-in_err-row-clause-cause : goal.returns-in_err-row-clause-cause
returns-in_err-row-clause-cause g c =
    read_cause_by (state g.S.Store c.args.tables.now) (state g.S.Store c.invocation_after.new.tables) _ c.from_residual.result c.from_residual.ensures.1 c.in_err-row.ensures.cause
