use Rattle.std.proofs.Common.{arith}
use Rattle.sqlite.specs.Held.{state}
use Rattle.sqlite.specs.Values.{bound}
use Rattle.sql_tables.proofs.Causes.{cause_if_clean}
use Rattle.sql_tables.proofs.Queries.{err_then, ok_then}
use Rattle.store_tables.specs.Tables.{store_schema}
use Rattle.store_tables.proofs.Found.{tells_ambiguous, tells_one}
use Rattle.store_tables.proofs.Asked.{was_asked}
use Rattle.store_tables.proofs.read.find_one.Goals as goal

pub returns-clause-found : goal.returns-clause-found
returns-clause-found g c clean =
    rw (← c.tables.view_is) (
    tells_one g.R.Stored.cells g.R.Stored.fits c.args.sql.now (bound c.args.params.now) (state g.S.Store c.tables.inside.connection) (c.tables.invariant.0 (omega (arith, c.one_by.ensures.crash.clean))) c.one_by.result (c.one_by.ensures.answers clean))

pub returns-clause-foreign : goal.returns-clause-foreign
returns-clause-foreign g c clean =
    rw (← c.tables.view_is) (
    tells_ambiguous g.R.Stored.cells g.R.Stored.fits c.args.sql.now (bound c.args.params.now) (state g.S.Store c.tables.inside.connection) (c.tables.invariant.0 (omega (arith, c.one_by.ensures.crash.clean))) c.one_by.result (c.one_by.ensures.foreign clean))

pub returns-clause-open : goal.returns-clause-open
returns-clause-open g c clean =
    rw (← c.tables.view_is) (
    was_asked (state g.S.Store c.tables.inside.connection) c.one_by.result (ok_then c.one_by.result (c.one_by.ensures.answers clean) (λ o it. it.0))
    (err_then c.one_by.result (c.one_by.ensures.foreign clean) (λ e it is. (it is).0)))

pub returns-clause-cause : goal.returns-clause-cause
returns-clause-cause g c it =
    rw (← c.tables.view_is) (
    cause_if_clean (state g.S.Store c.tables.inside.connection) (state g.S.Store c.one_by.new.conn) c.one_by.result (λ clean.
    c.one_by.ensures.cause (store_schema, c.tables.invariant.0 (omega (arith, c.one_by.ensures.crash.clean, clean)), it)))
