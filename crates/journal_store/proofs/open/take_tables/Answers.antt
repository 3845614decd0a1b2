use Rattle.sqlite.specs.Held.{state}
use Rattle.store_refusals.proofs.Causes.{read_cause_by}
use Rattle.journal_store.proofs.open.take_tables.Goals as goal

pub returns-in_err-open-clause-cause : goal.returns-in_err-open-clause-cause
returns-in_err-open-clause-cause g c =
    read_cause_by (state g.S.Store c.args.conn.now) (state g.S.Store c.open.new.conn) _ c.from_residual.result c.from_residual.ensures.1 c.in_err-open.ensures.cause
