use Rattle.std.proofs.Common.{◌≡◌, sym, subst, arith, inr, IsTrue, option_map}
use Rattle.sqlite.specs.Held.{state}
use Rattle.sqlite.specs.State.{State, HasCleanDisk}
use Rattle.journal_model.specs.Cause.{those_that_hold}
use Rattle.store_refusals.specs.declared.refusal.Refusal.TheVariants.{ForeignRow}
use Rattle.store_refusals.specs.RefusalConditions.{IsRefused, is_circumstance}
use Rattle.store_refusals.proofs.Causes.{err_later, read_cause_by}
use Rattle.store_invocations.specs.Rows.{known_tests}
use Rattle.store_invocations.proofs.Reading.{decided_err}
use Rattle.store_invocations.proofs.Rows.{asked_journal, none_missing, rows_are}
use Rattle.store_invocations.proofs.Standing.{store_kept}
use Rattle.store_invocations.proofs.Telling.{open_is}
use Rattle.store_reads.specs.OpenRequests.{journal_if_open}
use Rattle.store_reads.proofs.OpenRequests.{none_found, rows_found}
use Rattle.store_reads.proofs.requests.rows_if_open.Goals as goal

pub returns-clause-told : goal.returns-clause-told
returns-clause-told g c clean events store =
    let old : State = state g.S.Store c.args.tables.now in
    let mid : State = state g.S.Store c.known_row.new.tables in
    let early : HasCleanDisk mid = omega (arith, c.journal.ensures.looks.crash.clean, clean) in
    let found = c.in_ok-row.ensures.decided early events store in
    let now = store_kept events old mid c.known_row.ensures.looks.crash c.known_row.ensures.looks.kept store in
    let are = rows_are events c.args.id.now mid c.in_ok-rows.rows.items (now.keeps early (c.in_ok-rows.ensures.open clean)) (c.in_ok-rows.ensures.found clean) in
    (found.0, rows_found events c.args.id.now _ c.is_none-open.result (open_is events c.args.id.now c.in_ok-row.row c.is_none-open.result found.1 c.is_none-open.ensures) c.if-not-open.false are)

pub returns-then-not-open-clause-told : goal.returns-then-not-open-clause-told
returns-then-not-open-clause-told g c clean events store =
    let found = c.in_ok-row.ensures.decided clean events store in
    (found.0, none_found events c.args.id.now c.is_none-open.result (open_is events c.args.id.now c.in_ok-row.row c.is_none-open.result found.1 c.is_none-open.ensures) c.if-not-open.true)

pub returns-then-len-count-clause-told : goal.returns-then-len-count-clause-told
returns-then-len-count-clause-told g c clean events store =
    let old : State = state g.S.Store c.args.tables.now in
    let mid : State = state g.S.Store c.known_row.new.tables in
    let early : HasCleanDisk mid = omega (arith, c.journal.ensures.looks.crash.clean, clean) in
    let found = c.in_ok-row.ensures.decided early events store in
    let now = store_kept events old mid c.known_row.ensures.looks.crash c.known_row.ensures.looks.kept store in
    let are = rows_are events c.args.id.now mid c.in_ok-rows.rows.items (now.keeps early (c.in_ok-rows.ensures.open clean)) (c.in_ok-rows.ensures.found clean) in
    none_missing events c.args.id.now c.in_ok-row.row c.in_ok-rows.rows.items ForeignRow found.1 are
    (λ same. omega (arith, c.len.ensures, c.if-len-count.true, same))

pub returns-in_err-row-clause-told : goal.returns-in_err-row-clause-told
returns-in_err-row-clause-told g c clean events store =
    decided_err (known_tests events c.args.id.now) (λ rows. option_map (λ found. found.items) rows ≡ journal_if_open events c.args.id.now) c.from_residual.result c.from_residual.ensures.1 (λ why gives.
    subst (IsRefused (those_that_hold (known_tests events c.args.id.now))) (sym gives) (c.in_err-row.ensures.decided clean events store))

pub returns-in_err-rows-clause-told : goal.returns-in_err-rows-clause-told
returns-in_err-rows-clause-told g c clean events store =
    let old : State = state g.S.Store c.args.tables.now in
    let mid : State = state g.S.Store c.known_row.new.tables in
    let early : HasCleanDisk mid = omega (arith, c.journal.ensures.looks.crash.clean, clean) in
    let now = store_kept events old mid c.known_row.ensures.looks.crash c.known_row.ensures.looks.kept store in
    decided_err (known_tests events c.args.id.now) (λ rows. option_map (λ found. found.items) rows ≡ journal_if_open events c.args.id.now) c.from_residual-in_err-rows.result c.from_residual-in_err-rows.ensures.1 (λ why gives.
    inr (subst (λ w. IsTrue (is_circumstance w)) (sym gives)
    (asked_journal events c.args.id.now mid _ (c.in_err-rows.ensures.open clean) (c.in_err-rows.ensures.foreign clean) (now.keeps early))))

pub returns-in_err-rows-clause-cause : goal.returns-in_err-rows-clause-cause
returns-in_err-rows-clause-cause g c =
    let old : State = state g.S.Store c.args.tables.now in
    let mid : State = state g.S.Store c.known_row.new.tables in
    let new : State = state g.S.Store c.journal.new.tables in
    err_later old mid new _ _ c.known_row.ensures.looks.crash c.journal.ensures.looks.crash c.from_residual-in_err-rows.result
    (read_cause_by mid new _ c.from_residual-in_err-rows.result c.from_residual-in_err-rows.ensures.1 c.in_err-rows.ensures.cause)
