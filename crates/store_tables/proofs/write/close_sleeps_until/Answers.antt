use Rattle.std.proofs.Common.{◌∷◌, [], refl}
use Rattle.sql_tables.specs.Cells.{long_cell}
use Rattle.store_tables.specs.Statements.{close_sleeps_until_text}
use Rattle.store_tables.specs.Records.{without_sleeps_until}
use Rattle.store_tables.proofs.Sleeps.{sleeps_closed_until}
use Rattle.store_tables.proofs.Changes.{closes_sleeps_until}
use Rattle.store_tables.proofs.Moves.{altered}
use Rattle.store_tables.proofs.write.close_sleeps_until.Goals as goal

pub returns-clause-alters : goal.returns-clause-alters
returns-clause-alters g c =
    altered g.S.Store (without_sleeps_until c.args.moment) close_sleeps_until_text (long_cell c.args.moment ∷ []) c.args.tx.now.conn.now c.run.new.tx.conn.now (closes_sleeps_until c.args.moment)
    (sleeps_closed_until c.args.moment)
    c.requires c.run.ensures.survives _ (rw c.long.ensures.cell refl) c.run.result c.run.ensures.ran c.run.ensures.refused c.run.ensures.kept
