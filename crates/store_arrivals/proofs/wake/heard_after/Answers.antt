use Rattle.std.proofs.Common.{◌≡◌, ◌∙◌, ◌++◌, ap, sym, subst, arith, inr, List, drop, IsTrue}
use Rattle.sqlite.specs.Held.{state}
use Rattle.sqlite.specs.State.{State, HasCleanDisk}
use Rattle.journal_model.specs.Journal.{recorded_arrivals}
use Rattle.store_tables.specs.declared.row.EntryRow.{EntryRow}
use Rattle.store_refusals.specs.RefusalConditions.{is_circumstance}
use Rattle.store_frames.specs.First.{AreFirst}
use Rattle.store_refusals.proofs.Causes.{read_cause_by, err_unasked}
use Rattle.store_invocations.proofs.Reading.{told_err}
use Rattle.store_arrivals.specs.ArrivalRows.{AreRowsOf}
use Rattle.store_arrivals.proofs.HeardRows.{foreign_never, rows_found, rows_heard}
use Rattle.store_arrivals.proofs.wake.heard_after.Goals as goal

pub returns-clause-told : goal.returns-clause-told
returns-clause-told g c clean events store =
    let old : State = state g.S.Store c.args.tables.now in
    let early : HasCleanDisk old = omega (arith, c.arrivals_after.ensures.looks.crash.clean) in
    let keeps = store.keeps early (c.in_ok-rows.ensures.open clean) in
    let arrivals = drop c.args.heard (recorded_arrivals events c.args.id.now) in
    let are = rows_found events old c.args.id.now c.args.heard keeps c.in_ok-rows.rows.items (c.in_ok-rows.ensures.found clean) in
    c.with_new.ensures.told arrivals (c.hear_rows-kept.ensures arrivals (subst (AreRowsOf arrivals) (sym (c.as_slice.ensures.value ∙ are)) (rows_heard events c.args.id.now c.args.heard store.read)))

pub returns-in_err-rows-clause-told : goal.returns-in_err-rows-clause-told
returns-in_err-rows-clause-told g c clean events store =
    let old : State = state g.S.Store c.args.tables.now in
    let early : HasCleanDisk old = omega (arith, c.arrivals_after.ensures.looks.crash.clean) in
    told_err (λ first. AreFirst first (drop c.args.heard (recorded_arrivals events c.args.id.now) ++ c.args.new.now)) c.from_residual.result c.from_residual.ensures.1 (λ why gives.
    inr (subst (λ w. IsTrue (is_circumstance w)) (sym gives)
    (foreign_never events old c.args.id.now c.args.heard _ (c.in_err-rows.ensures.open clean) (c.in_err-rows.ensures.foreign clean) (store.keeps early))))

pub returns-in_err-rows-clause-cause : goal.returns-in_err-rows-clause-cause
returns-in_err-rows-clause-cause g c =
    read_cause_by (state g.S.Store c.args.tables.now) (state g.S.Store c.arrivals_after.new.tables) _ c.from_residual.result c.from_residual.ensures.1 c.in_err-rows.ensures.cause

pub returns-clause-cause : goal.returns-clause-cause
returns-clause-cause g c =
    err_unasked (state g.S.Store c.args.tables.now) (state g.S.Store c.arrivals_after.new.tables) c.with_new.result c.with_new.ensures.unasked
