-- One row at most is kept under a key, and it is the outbox's.
use Rattle.std.proofs.Common.{◌≡◌, sym, subst, arith, inr, IsTrue}
use Rattle.std.specs.List.{AllByRecursion}
use Rattle.sqlite.specs.Held.{state}
use Rattle.sqlite.specs.State.{State, HasCleanDisk}
use Rattle.store_refusals.specs.RefusalConditions.{is_circumstance}
use Rattle.store_refusals.proofs.Causes.{read_cause_by}
use Rattle.store_invocations.proofs.Reading.{told_err}
use Rattle.store_deliveries.specs.StoredOutbox.{FitsRow, row_of_key}
use Rattle.store_deliveries.proofs.Keyed.{found_under, row_known}
use Rattle.store_deliveries.proofs.MessageRows.{rows_fit}
use Rattle.store_deliveries.proofs.owed.row_at.Goals as goal

pub returns-clause-told : goal.returns-clause-told
returns-clause-told g c clean events outbox store has =
    let old : State = state g.S.Store c.args.tables.now in
    let early : HasCleanDisk old = omega (arith, c.state_at.ensures.looks.crash.clean) in
    let is_open = c.in_ok-row.ensures.open clean in (
      found_under outbox has.is.ascend has.is.small old (has.keeps early is_open) c.new-outbox.result c.args.key.now c.in_ok-row.row c.new-outbox.ensures (c.in_ok-row.ensures.found clean),
      rows_fit events old (store.keeps early is_open) outbox old has,
    )

pub returns-in_err-row-clause-told : goal.returns-in_err-row-clause-told
returns-in_err-row-clause-told g c clean events outbox store has =
    let old : State = state g.S.Store c.args.tables.now in
    let early : HasCleanDisk old = omega (arith, c.state_at.ensures.looks.crash.clean) in
    let key = c.args.key.now in
    told_err (λ row. (row ≡ row_of_key outbox key) × AllByRecursion FitsRow outbox.rows) c.from_residual.result c.from_residual.ensures.1 (λ why gives.
    inr (subst (λ w. IsTrue (is_circumstance w)) (sym gives)
    (row_known outbox old (has.keeps early) has.is.ascend has.is.small c.new-outbox.result key c.new-outbox.ensures _ (c.in_err-row.ensures.open clean) (c.in_err-row.ensures.foreign clean))))

pub returns-in_err-row-clause-cause : goal.returns-in_err-row-clause-cause
returns-in_err-row-clause-cause g c =
    read_cause_by (state g.S.Store c.args.tables.now) (state g.S.Store c.state_at.new.tables) _ c.from_residual.result c.from_residual.ensures.1 c.in_err-row.ensures.cause
