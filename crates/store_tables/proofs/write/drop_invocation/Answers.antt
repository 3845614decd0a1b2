use Rattle.std.proofs.Common.{◌∷◌, [], refl}
use Rattle.sqlite.specs.declared.types.Value.TheVariants.{Text}
use Rattle.store_tables.specs.Statements.{drop_invocation_text}
use Rattle.store_tables.specs.Records.{without_invocation}
use Rattle.store_tables.proofs.Invocations.{invocation_dropped}
use Rattle.store_tables.proofs.Changes.{drops_invocation}
use Rattle.store_tables.proofs.Moves.{altered}
use Rattle.store_tables.proofs.write.drop_invocation.Goals as goal

pub returns-clause-alters : goal.returns-clause-alters
returns-clause-alters g c =
    altered g.S.Store (without_invocation c.args.id.now) drop_invocation_text (Text c.args.id.now ∷ []) c.args.tx.now.conn.now c.run.new.tx.conn.now (drops_invocation c.args.id.now)
    (invocation_dropped c.args.id.now)
    c.requires c.run.ensures.survives _ (rw c.text.ensures.cell refl) c.run.result c.run.ensures.ran c.run.ensures.refused c.run.ensures.kept
