use Rattle.std.proofs.Common.{arith, []}
use Rattle.sqlite.specs.State.{State, HasCleanDisk}
use Rattle.sqlite.specs.Held.{state}
use Rattle.sql_tables.proofs.Queries.{on_ok}
use Rattle.sql_tables.specs.Causes.{RefusesToRun}
use Rattle.store_tables.specs.Statements.{mark_text}
use Rattle.store_tables.proofs.Caused.{told_by}
use Rattle.store_tables.proofs.Making.{marked}
use Rattle.store_tables.proofs.Marking.{mark_told}
use Rattle.store_tables.proofs.opening.add_mark.Goals as goal

pub returns-clause-ok : goal.returns-clause-ok
returns-clause-ok g c clean =
    let old : State = state g.S.Store c.args.tx.now.conn.now in
    let new : State = state g.S.Store c.run.new.tx.conn.now in
    let early : HasCleanDisk old = omega (arith, c.run.ensures.survives.clean) in
    on_ok c.run.result (c.run.ensures.ran clean) (λ ran.
    let done = marked old new (c.requires early) ran in
    (done.0, ran.inside, done.1))

pub returns-clause-cause : goal.returns-clause-cause
returns-clause-cause g c =
    let a : State = state g.S.Store c.args.tx.now.conn.now in
    let b : State = state g.S.Store c.run.new.tx.conn.now in
    told_by a b c.run.result (RefusesToRun mark_text [] a b) c.run.ensures.refused (mark_told a b c.run.ensures.survives c.requires)
