use Rattle.std.proofs.Common.{refl}
use Rattle.store_tables.specs.Statements.{add_state_text}
use Rattle.store_tables.specs.Records.{state_cells, with_state}
use Rattle.store_tables.proofs.States.{state_added}
use Rattle.store_tables.proofs.Changes.{adds_state}
use Rattle.store_tables.proofs.Moves.{altered}
use Rattle.store_tables.proofs.write.add_state.Goals as goal

pub returns-clause-alters : goal.returns-clause-alters
returns-clause-alters g c =
    altered g.S.Store (with_state c.args.row.now) add_state_text (state_cells c.args.row.now) c.args.tx.now.conn.now c.run.new.tx.conn.now (adds_state c.args.row.now)
    (state_added c.args.row.now c.text.ensures.fits)
    c.requires c.run.ensures.survives _ (rw (c.text.ensures.cell, c.blob.ensures, c.blob-2.ensures) refl) c.run.result c.run.ensures.ran c.run.ensures.refused c.run.ensures.kept
