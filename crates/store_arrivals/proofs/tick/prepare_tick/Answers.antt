use Rattle.std.proofs.Common.{◌≡◌, refl, sym, subst, inr, arith}
use Rattle.sqlite.specs.Held.{state}
use Rattle.sqlite.specs.State.{State, HasCleanDisk}
use Rattle.journal_model.specs.Event.{Event}
use Rattle.journal_model.specs.Cause.{causes_of}
use Rattle.store_tables.proofs.Chained.{looks_on}
use Rattle.store_refusals.specs.RefusalConditions.{IsRefused}
use Rattle.store_refusals.proofs.Causes.{read_cause_by, err_later, memory_tells}
use Rattle.store_invocations.proofs.Standing.{store_kept}
use Rattle.store_arrivals.specs.PreparedTicks.{IsTickReady}
use Rattle.store_arrivals.proofs.Whole.{asked_due, open_due, prepared_err, rows_due, tick_ready}
use Rattle.store_arrivals.proofs.tick.prepare_tick.Goals as goal

pub returns-clause-prepared : goal.returns-clause-prepared
returns-clause-prepared g c clean events store =
    let old : State = state g.S.Store c.args.tables.now in
    let mid : State = state g.S.Store c.sleeps_until.new.tables in
    let early : HasCleanDisk mid = omega (arith, c.end_due.ensures.looks.crash.clean, clean) in
    let first : HasCleanDisk old = omega (arith, c.sleeps_until.ensures.looks.crash.clean, early) in
    let k = store.keeps first (c.in_ok-rows.ensures.open early) in
    let are = rows_due events c.args.now old k c.due_until-until.result c.in_ok-rows.rows.items c.due_until-until.ensures (c.in_ok-rows.ensures.found early) in
    tick_ready events c.args.now old k c.due_until-until.result c.len-count.result c.in_ok-rows.rows.items _ c.end_due.result c.due_until-until.ensures (omega (arith, c.len-count.ensures, c.in_ok-rows.rows.ok.0)) are c.in_ok-groups.ensures
    (c.end_due.ensures.decided clean events (store_kept events old mid c.sleeps_until.ensures.looks.crash c.sleeps_until.ensures.looks.kept store)
    (open_due events c.args.now old k c.in_ok-rows.rows.items _ are c.in_ok-groups.ensures))

pub returns-in_err-rows-clause-prepared : goal.returns-in_err-rows-clause-prepared
returns-in_err-rows-clause-prepared g c clean events store =
    let old : State = state g.S.Store c.args.tables.now in
    let first : HasCleanDisk old = omega (arith, c.sleeps_until.ensures.looks.crash.clean, clean) in
    prepared_err events (Event.Tick c.args.now) (IsTickReady events c.args.now) c.from_residual.result c.from_residual.ensures.1 (λ why gives.
    subst (IsRefused (causes_of events (Event.Tick c.args.now))) (sym gives)
    (inr (asked_due events c.args.now c.due_until-until.result old _ c.due_until-until.ensures (c.in_err-rows.ensures.open clean) (c.in_err-rows.ensures.foreign clean) (store.keeps first))))

pub returns-in_err-groups-clause-prepared : goal.returns-in_err-groups-clause-prepared
returns-in_err-groups-clause-prepared g c clean events store =
    prepared_err events (Event.Tick c.args.now) (IsTickReady events c.args.now) c.from_residual-in_err-groups.result c.from_residual-in_err-groups.ensures.1 (λ why gives.
    subst (IsRefused (causes_of events (Event.Tick c.args.now))) (sym gives) (inr refl))

pub returns-clause-looks : goal.returns-clause-looks
returns-clause-looks g c =
    looks_on g.S.Store c.args.tables.now c.sleeps_until.new.tables c.end_due.new.tables c.sleeps_until.ensures.looks c.end_due.ensures.looks

pub returns-clause-cause : goal.returns-clause-cause
returns-clause-cause g c =
    err_later (state g.S.Store c.args.tables.now) (state g.S.Store c.sleeps_until.new.tables) (state g.S.Store c.end_due.new.tables) _ _ c.sleeps_until.ensures.looks.crash c.end_due.ensures.looks.crash
    c.end_due.result c.end_due.ensures.cause

pub returns-in_err-rows-clause-cause : goal.returns-in_err-rows-clause-cause
returns-in_err-rows-clause-cause g c =
    read_cause_by (state g.S.Store c.args.tables.now) (state g.S.Store c.sleeps_until.new.tables) _ c.from_residual.result c.from_residual.ensures.1 c.in_err-rows.ensures.cause

pub returns-in_err-groups-clause-cause : goal.returns-in_err-groups-clause-cause
returns-in_err-groups-clause-cause g c =
    memory_tells (state g.S.Store c.args.tables.now) (state g.S.Store c.sleeps_until.new.tables) c.from_residual-in_err-groups.result c.from_residual-in_err-groups.ensures.1
