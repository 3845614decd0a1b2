use Rattle.std.proofs.Common.{◌≡◌, sym, subst, arith, inr, IsTrue}
use Rattle.std.specs.List.{slice_get}
use Rattle.sqlite.specs.Held.{state}
use Rattle.sqlite.specs.State.{State, HasCleanDisk}
use Rattle.store_tables.specs.Questions.{is_at_place}
use Rattle.store_model.specs.KeptRecords.{journal_rows}
use Rattle.store_refusals.specs.RefusalConditions.{is_circumstance}
use Rattle.store_invocations.proofs.Reading.{asked_once, found_is, once_of, told_err}
use Rattle.store_deliveries.proofs.MessageRows.{entry_kept}
use Rattle.store_refusals.proofs.Causes.{read_cause_by}
use Rattle.store_deliveries.proofs.recorded.row_at.Goals as goal

pub returns-clause-told : goal.returns-clause-told
returns-clause-told g c clean events store =
    let old : State = state g.S.Store c.args.tables.now in
    let early : HasCleanDisk old = omega (arith, c.entry_at.ensures.looks.crash.clean) in
    found_is events old (λ r. r.entries) (is_at_place c.args.invocation.now c.args.place) (slice_get (journal_rows events c.args.invocation.now) c.args.place) c.in_ok-row.row
    (store.keeps early (c.in_ok-row.ensures.open clean)) (entry_kept events c.args.invocation.now c.args.place) (c.in_ok-row.ensures.found clean)

pub returns-in_err-row-clause-told : goal.returns-in_err-row-clause-told
returns-in_err-row-clause-told g c clean events store =
    let old : State = state g.S.Store c.args.tables.now in
    let early : HasCleanDisk old = omega (arith, c.entry_at.ensures.looks.crash.clean) in
    told_err (λ row. row ≡ slice_get (journal_rows events c.args.invocation.now) c.args.place) c.from_residual.result c.from_residual.ensures.1 (λ why gives.
    inr (subst (λ w. IsTrue (is_circumstance w)) (sym gives)
    (asked_once events old (λ r. r.entries) (is_at_place c.args.invocation.now c.args.place) _ (c.in_err-row.ensures.open clean) (c.in_err-row.ensures.foreign clean) (store.keeps early)
    (once_of events (λ r. r.entries) (is_at_place c.args.invocation.now c.args.place) (slice_get (journal_rows events c.args.invocation.now) c.args.place) (entry_kept events c.args.invocation.now c.args.place)))))

pub returns-in_err-row-clause-cause : goal.returns-in_err-row-clause-cause
returns-in_err-row-clause-cause g c =
    read_cause_by (state g.S.Store c.args.tables.now) (state g.S.Store c.entry_at.new.tables) _ c.from_residual.result c.from_residual.ensures.1 c.in_err-row.ensures.cause
