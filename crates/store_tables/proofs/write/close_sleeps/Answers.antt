use Rattle.std.proofs.Common.{◌∷◌, [], refl}
use Rattle.sqlite.specs.declared.types.Value.TheVariants.{Text}
use Rattle.store_tables.specs.Statements.{close_sleeps_text}
use Rattle.store_tables.specs.Records.{without_sleeps}
use Rattle.store_tables.proofs.Sleeps.{sleeps_closed}
use Rattle.store_tables.proofs.Changes.{closes_sleeps}
use Rattle.store_tables.proofs.Moves.{altered}
use Rattle.store_tables.proofs.write.close_sleeps.Goals as goal

pub returns-clause-alters : goal.returns-clause-alters
returns-clause-alters g c =
    altered g.S.Store (without_sleeps c.args.invocation.now) close_sleeps_text (Text c.args.invocation.now ∷ []) c.args.tx.now.conn.now c.run.new.tx.conn.now (closes_sleeps c.args.invocation.now)
    (sleeps_closed c.args.invocation.now)
    c.requires c.run.ensures.survives _ (rw c.text.ensures.cell refl) c.run.result c.run.ensures.ran c.run.ensures.refused c.run.ensures.kept
