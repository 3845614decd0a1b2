use Rattle.std.proofs.Common.{◌∷◌, [], refl}
use Rattle.sqlite.specs.declared.types.Value.TheVariants.{Blob, Text}
use Rattle.store_tables.specs.Statements.{drop_state_text}
use Rattle.store_tables.specs.Records.{without_state}
use Rattle.store_tables.proofs.States.{state_dropped}
use Rattle.store_tables.proofs.Changes.{drops_state}
use Rattle.store_tables.proofs.Moves.{altered}
use Rattle.store_tables.proofs.write.drop_state.Goals as goal

pub returns-clause-alters : goal.returns-clause-alters
returns-clause-alters g c =
    altered g.S.Store (without_state c.args.object.now c.args.key.now) drop_state_text (Text c.args.object.now ∷ Blob c.args.key.now ∷ []) c.args.tx.now.conn.now c.run.new.tx.conn.now (drops_state c.args.object.now c.args.key.now)
    (state_dropped c.args.object.now c.args.key.now)
    c.requires c.run.ensures.survives _ (rw (c.text.ensures.cell, c.blob.ensures) refl) c.run.result c.run.ensures.ran c.run.ensures.refused c.run.ensures.kept
