use Rattle.std.proofs.Common.{arith}
use Rattle.sqlite.specs.Held.{state}
use Rattle.sqlite.specs.State.{State, HasCleanDisk}
use Rattle.journal_model.specs.Event.{Event}
use Rattle.journal_model.specs.Cause.{open_tests, own_tests}
use Rattle.store_refusals.proofs.Causes.{err_later}
use Rattle.store_invocations.proofs.Refusing.{decided_later, refused_more}
use Rattle.store_invocations.proofs.Standing.{store_kept}
use Rattle.store_arrivals.specs.Arrivals.{IsMadeReady}
use Rattle.store_arrivals.proofs.result.prepare_result.Goals as goal

pub returns-in-Ok-clause-prepared : goal.returns-in-Ok-clause-prepared
returns-in-Ok-clause-prepared g c clean events store =
    let old : State = state g.S.Store c.args.tables.now in
    let mid : State = state g.S.Store c.open_row.new.tables in
    let early : HasCleanDisk mid = omega (arith, c.prepare_for.ensures.looks.crash.clean) in
    let event = Event.Result c.args.id.now c.args.completion c.args.brought in
    let found = c.in-Ok.ensures.decided early events store in
    decided_later (open_tests events c.args.id.now) (own_tests events event) (IsMadeReady events event c.args.id.now) c.prepare_for.result found.0
    (c.prepare_for.ensures.decided clean events (store_kept events old mid c.open_row.ensures.looks.crash c.open_row.ensures.looks.kept store) found.1)

pub returns-in-Err-clause-prepared : goal.returns-in-Err-clause-prepared
returns-in-Err-clause-prepared g c clean events store =
    let event = Event.Result c.args.id.now c.args.completion c.args.brought in
    refused_more (open_tests events c.args.id.now) (own_tests events event) _ (c.in-Err.ensures.decided clean events store)

pub returns-in-Ok-clause-cause : goal.returns-in-Ok-clause-cause
returns-in-Ok-clause-cause g c =
    err_later (state g.S.Store c.args.tables.now) (state g.S.Store c.open_row.new.tables) (state g.S.Store c.prepare_for.new.tables) _ _ c.open_row.ensures.looks.crash c.prepare_for.ensures.looks.crash
    c.prepare_for.result c.prepare_for.ensures.cause
