use Rattle.sqlite.specs.Held.{state}
use Rattle.sql_tables.proofs.Causes.{read_cause_by}
use Rattle.store_tables.proofs.opening.open.Goals as goal

pub returns-in_err-is_marked-clause-cause : goal.returns-in_err-is_marked-clause-cause
returns-in_err-is_marked-clause-cause g c =
    read_cause_by (state g.S.Store c.args.conn.now) (state g.S.Store c.is_marked.new.conn) c.in_err-is_marked.field-0.0 c.from_residual.result c.from_residual.ensures.1 c.in_err-is_marked.ensures.cause
