-- The rows that are found are the outbox's.
use Rattle.std.proofs.Common.{◌≡◌, sym, subst, arith, inr, []}
use Rattle.std.specs.List.{AllByRecursion}
use Rattle.sqlite.specs.Held.{state}
use Rattle.sqlite.specs.State.{State, HasCleanDisk}
use Rattle.store_refusals.specs.RefusalConditions.{IsRefused}
use Rattle.store_refusals.proofs.Causes.{read_cause_by}
use Rattle.store_invocations.proofs.Reading.{told_err}
use Rattle.store_deliveries.specs.StoredOutbox.{FitsRow, kept_rows}
use Rattle.store_deliveries.proofs.Keyed.{rows_known, rows_under}
use Rattle.store_deliveries.proofs.MessageRows.{rows_fit}
use Rattle.store_deliveries.proofs.owed.all_rows.Goals as goal

pub returns-clause-told : goal.returns-clause-told
returns-clause-told g c clean events outbox store has =
    let old : State = state g.S.Store c.args.tables.now in
    let early : HasCleanDisk old = omega (arith, c.states_of.ensures.looks.crash.clean) in
    let is_open = c.in_ok-rows.ensures.open clean in (
      rows_under outbox old (has.keeps early is_open) c.new-outbox.result c.in_ok-rows.rows.items c.new-outbox.ensures (c.in_ok-rows.ensures.arranged clean),
      rows_fit events old (store.keeps early is_open) outbox old has,
    )

pub returns-in_err-rows-clause-told : goal.returns-in_err-rows-clause-told
returns-in_err-rows-clause-told g c clean events outbox store has =
    let old : State = state g.S.Store c.args.tables.now in
    let early : HasCleanDisk old = omega (arith, c.states_of.ensures.looks.crash.clean) in
    told_err (λ rows. (rows.items ≡ kept_rows outbox) × AllByRecursion FitsRow outbox.rows) c.from_residual.result c.from_residual.ensures.1 (λ why gives.
    subst (IsRefused []) (sym gives) (inr (rows_known outbox old (has.keeps early) c.new-outbox.result c.new-outbox.ensures _ (c.in_err-rows.ensures.open clean) (c.in_err-rows.ensures.foreign clean))))

pub returns-in_err-rows-clause-cause : goal.returns-in_err-rows-clause-cause
returns-in_err-rows-clause-cause g c =
    read_cause_by (state g.S.Store c.args.tables.now) (state g.S.Store c.states_of.new.tables) _ c.from_residual.result c.from_residual.ensures.1 c.in_err-rows.ensures.cause
