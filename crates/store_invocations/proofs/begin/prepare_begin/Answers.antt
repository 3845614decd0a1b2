use Rattle.std.proofs.Common.{sym, subst, arith}
use Rattle.journal_model.specs.Cause.{open_tests, those_that_hold}
use Rattle.store_refusals.specs.RefusalConditions.{IsRefused}
use Rattle.store_invocations.proofs.Standing.{store_kept}
use Rattle.store_invocations.specs.BegunAttempts.{IsBegun}
use Rattle.store_invocations.proofs.Deciding.{prepares_err, prepares_then}
use Rattle.sqlite.specs.Held.{state}
use Rattle.store_refusals.proofs.Causes.{err_later}
use Rattle.store_invocations.proofs.begin.prepare_begin.Goals as goal

pub returns-clause-prepared : goal.returns-clause-prepared
returns-clause-prepared g c clean events store =
    let first = c.in_ok-row.ensures.decided (omega (arith, c.prepare_next.ensures.looks.crash.clean, clean)) events store in
    prepares_then (IsBegun events c.args.id.now c.args.now) events c.args.id.now c.args.now c.prepare_next.result first.0
    (c.prepare_next.ensures.decided clean events c.args.id.now (store_kept events _ _ c.open_row.ensures.looks.crash c.open_row.ensures.looks.kept store) first.1)

pub returns-in_err-row-clause-prepared : goal.returns-in_err-row-clause-prepared
returns-in_err-row-clause-prepared g c clean events store =
    prepares_err (IsBegun events c.args.id.now c.args.now) events c.args.id.now c.args.now c.from_residual.result c.from_residual.ensures.1 (λ why gives.
    subst (IsRefused (those_that_hold (open_tests events c.args.id.now))) (sym gives) (c.in_err-row.ensures.decided clean events store))

pub returns-clause-cause : goal.returns-clause-cause
returns-clause-cause g c =
    err_later (state g.S.Store c.args.tables.now) (state g.S.Store c.open_row.new.tables) (state g.S.Store c.prepare_next.new.tables) _ _
    c.open_row.ensures.looks.crash c.prepare_next.ensures.looks.crash c.prepare_next.result c.prepare_next.ensures.cause
