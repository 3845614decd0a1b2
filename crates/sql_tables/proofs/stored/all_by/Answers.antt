use Rattle.sqlite.specs.Held.{state}
use Rattle.sql_tables.proofs.Causes.{read_cause_by}
use Rattle.sql_tables.proofs.stored.all_by.Goals as goal

pub returns-in_err-rows-clause-cause : goal.returns-in_err-rows-clause-cause
returns-in_err-rows-clause-cause g c asked =
    read_cause_by (state g.S.Store c.args.conn.now) (state g.S.Store c.rows_by.new.conn) _ c.from_residual.result c.from_residual.ensures.1 (c.in_err-rows.ensures.cause asked)
