use Rattle.std.proofs.Common.{arith}
use Rattle.sqlite.specs.Held.{state}
use Rattle.sqlite.specs.State.{State, HasCleanDisk}
use Rattle.sql_tables.proofs.Queries.{err_then, ok_then}
use Rattle.store_tables.proofs.Found.{all_arranged, all_found, all_other}
use Rattle.store_tables.proofs.Asked.{was_asked}
use Rattle.sql_tables.proofs.Causes.{cause_if_clean}
use Rattle.store_tables.specs.Tables.{store_schema}
use Rattle.store_tables.proofs.read.find_all.Goals as goal

pub returns-clause-found : goal.returns-clause-found
returns-clause-found g c clean =
    rw (← c.tables.view_is) (
    let old : State = state g.S.Store c.tables.inside.connection in
    let early : HasCleanDisk old = omega (arith, c.all_by.ensures.crash.clean) in
    ok_then c.all_by.result (c.all_by.ensures.answers clean) (λ xs it records test asks.
    all_found _ _ records test _ _ old (c.tables.invariant.0 early it.0) asks xs.items it.1 it.2))

pub returns-clause-arranged : goal.returns-clause-arranged
returns-clause-arranged g c clean =
    rw (← c.tables.view_is) (
    let old : State = state g.S.Store c.tables.inside.connection in
    let early : HasCleanDisk old = omega (arith, c.all_by.ensures.crash.clean) in
    ok_then c.all_by.result (c.all_by.ensures.answers clean) (λ xs it records test at asks.
    all_arranged _ _ records test at _ _ old (c.tables.invariant.0 early it.0) asks xs.items it.1 it.2))

pub returns-clause-foreign : goal.returns-clause-foreign
returns-clause-foreign g c clean =
    rw (← c.tables.view_is) (
    let old : State = state g.S.Store c.tables.inside.connection in
    let early : HasCleanDisk old = omega (arith, c.all_by.ensures.crash.clean) in
    err_then c.all_by.result (c.all_by.ensures.foreign clean) (λ e it is records test at asks.
    all_other _ _ records test at _ _ old (c.tables.invariant.0 early (it is).0) asks (it is).1))

pub returns-clause-open : goal.returns-clause-open
returns-clause-open g c clean =
    rw (← c.tables.view_is) (
    was_asked (state g.S.Store c.tables.inside.connection) c.all_by.result (ok_then c.all_by.result (c.all_by.ensures.answers clean) (λ o it. it.0))
    (err_then c.all_by.result (c.all_by.ensures.foreign clean) (λ e it is. (it is).0)))

pub returns-clause-cause : goal.returns-clause-cause
returns-clause-cause g c it =
    rw (← c.tables.view_is) (
    cause_if_clean (state g.S.Store c.tables.inside.connection) (state g.S.Store c.all_by.new.conn) c.all_by.result (λ clean.
    c.all_by.ensures.cause (store_schema, c.tables.invariant.0 (omega (arith, c.all_by.ensures.crash.clean, clean)), it)))
