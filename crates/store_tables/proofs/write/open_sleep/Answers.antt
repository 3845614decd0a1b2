use Rattle.std.proofs.Common.{refl}
use Rattle.store_tables.specs.Statements.{open_sleep_text}
use Rattle.store_tables.specs.Records.{sleep_cells, with_sleep}
use Rattle.store_tables.proofs.Sleeps.{sleep_opened}
use Rattle.store_tables.proofs.Changes.{opens_sleep}
use Rattle.store_tables.proofs.Moves.{altered}
use Rattle.store_tables.proofs.write.open_sleep.Goals as goal

pub returns-clause-alters : goal.returns-clause-alters
returns-clause-alters g c =
    altered g.S.Store (with_sleep c.args.sleep.now) open_sleep_text (sleep_cells c.args.sleep.now) c.args.tx.now.conn.now c.run.new.tx.conn.now (opens_sleep c.args.sleep.now)
    (sleep_opened c.args.sleep.now (record { moment = c.long.ensures.fits; invocation = c.text.ensures.fits; completion = c.short.ensures.fits }))
    c.requires c.run.ensures.survives _ (rw (c.long.ensures.cell, c.text.ensures.cell, c.short.ensures.cell) refl) c.run.result c.run.ensures.ran c.run.ensures.refused c.run.ensures.kept
