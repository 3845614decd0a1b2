use Rattle.std.proofs.Common.{◌∷◌}
use Rattle.sqlite.specs.declared.types.Value.TheVariants.{Text}
use Rattle.store_tables.specs.Statements.{set_progress_text}
use Rattle.store_tables.specs.Records.{progress_cells, with_progress}
use Rattle.store_tables.proofs.Invocations.{progress_set}
use Rattle.store_tables.proofs.Changes.{sets_progress}
use Rattle.store_tables.proofs.Moves.{altered}
use Rattle.store_tables.proofs.write.set_progress.Goals as goal

pub returns-clause-alters : goal.returns-clause-alters
returns-clause-alters g c =
    altered g.S.Store (with_progress c.args.id.now c.args.progress.now) set_progress_text (Text c.args.id.now ∷ progress_cells c.args.progress.now) c.args.tx.now.conn.now c.run.new.tx.conn.now (sets_progress c.args.id.now c.args.progress.now)
    (progress_set c.args.id.now c.args.progress.now c.changed_cells.ensures.fits)
    c.requires c.run.ensures.survives _ c.changed_cells.ensures.cells c.run.result c.run.ensures.ran c.run.ensures.refused c.run.ensures.kept
