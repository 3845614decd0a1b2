use Rattle.std.proofs.Common.{◌≡◌, ◌-◌, sym, subst, arith, inr, IsTrue}
use Rattle.std.specs.List.{slice_get}
use Rattle.sqlite.specs.Held.{state}
use Rattle.sqlite.specs.State.{State, HasCleanDisk}
use Rattle.store_tables.specs.Questions.{is_arrival_at}
use Rattle.store_model.specs.Lookups.{arrival_rows}
use Rattle.store_refusals.specs.RefusalConditions.{is_circumstance}
use Rattle.store_invocations.proofs.Reading.{asked_once, found_is, once_of, told_err}
use Rattle.store_reads.proofs.Finding.{arrival_kept}
use Rattle.store_refusals.proofs.Causes.{read_cause_by}
use Rattle.store_reads.proofs.next_input.later_row.Goals as goal

pub returns-clause-told : goal.returns-clause-told
returns-clause-told g c clean events store some =
    let old : State = state g.S.Store c.args.tables.now in
    let early : HasCleanDisk old = omega (arith, c.arrival_at.ensures.looks.crash.clean) in
    found_is events old (λ r. r.entries) (is_arrival_at c.args.id.now c.args.ordinal) (slice_get (arrival_rows events c.args.id.now) (c.args.ordinal - 1)) c.in_ok-row.row
    (store.keeps early (c.in_ok-row.ensures.open clean)) (arrival_kept events c.args.id.now c.args.ordinal some) (c.in_ok-row.ensures.found clean)

pub returns-in_err-row-clause-told : goal.returns-in_err-row-clause-told
returns-in_err-row-clause-told g c clean events store some =
    let old : State = state g.S.Store c.args.tables.now in
    let early : HasCleanDisk old = omega (arith, c.arrival_at.ensures.looks.crash.clean) in
    told_err (λ row. row ≡ slice_get (arrival_rows events c.args.id.now) (c.args.ordinal - 1)) c.from_residual.result c.from_residual.ensures.1 (λ why gives.
    inr (subst (λ w. IsTrue (is_circumstance w)) (sym gives)
    (asked_once events old (λ r. r.entries) (is_arrival_at c.args.id.now c.args.ordinal) _ (c.in_err-row.ensures.open clean) (c.in_err-row.ensures.foreign clean) (store.keeps early)
    (once_of events (λ r. r.entries) (is_arrival_at c.args.id.now c.args.ordinal) (slice_get (arrival_rows events c.args.id.now) (c.args.ordinal - 1)) (arrival_kept events c.args.id.now c.args.ordinal some)))))

pub returns-in_err-row-clause-cause : goal.returns-in_err-row-clause-cause
returns-in_err-row-clause-cause g c =
    read_cause_by (state g.S.Store c.args.tables.now) (state g.S.Store c.arrival_at.new.tables) _ c.from_residual.result c.from_residual.ensures.1 c.in_err-row.ensures.cause
