use Rattle.std.proofs.Common.{◌∷◌, [], refl}
use Rattle.sqlite.specs.declared.types.Value.TheVariants.{Text}
use Rattle.store_tables.specs.Statements.{drop_states_text}
use Rattle.store_tables.specs.Records.{without_states}
use Rattle.store_tables.proofs.States.{states_dropped}
use Rattle.store_tables.proofs.Changes.{drops_states}
use Rattle.store_tables.proofs.Moves.{altered}
use Rattle.store_tables.proofs.write.drop_states.Goals as goal

pub returns-clause-alters : goal.returns-clause-alters
returns-clause-alters g c =
    altered g.S.Store (without_states c.args.object.now) drop_states_text (Text c.args.object.now ∷ []) c.args.tx.now.conn.now c.run.new.tx.conn.now (drops_states c.args.object.now)
    (states_dropped c.args.object.now)
    c.requires c.run.ensures.survives _ (rw c.text.ensures.cell refl) c.run.result c.run.ensures.ran c.run.ensures.refused c.run.ensures.kept
