use Rattle.store_tables.specs.Statements.{add_invocation_text}
use Rattle.store_tables.specs.Records.{invocation_cells, with_invocation}
use Rattle.store_tables.proofs.Invocations.{invocation_added}
use Rattle.store_tables.proofs.Changes.{adds_invocation}
use Rattle.store_tables.proofs.Moves.{altered}
use Rattle.store_tables.proofs.write.add_invocation.Goals as goal

pub returns-clause-alters : goal.returns-clause-alters
returns-clause-alters g c =
    altered g.S.Store (with_invocation c.args.invocation.now) add_invocation_text (invocation_cells c.args.invocation.now) c.args.tx.now.conn.now c.run.new.tx.conn.now (adds_invocation c.args.invocation.now)
    (invocation_added c.args.invocation.now c.invocation_cells.ensures.fits)
    c.requires c.run.ensures.survives _ c.invocation_cells.ensures.cells c.run.result c.run.ensures.ran c.run.ensures.refused c.run.ensures.kept
