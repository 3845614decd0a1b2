use Rattle.std.proofs.Common.{◌∷◌, [], refl}
use Rattle.sqlite.specs.declared.types.Value.TheVariants.{Text}
use Rattle.store_tables.specs.Statements.{drop_entries_text}
use Rattle.store_tables.specs.Records.{without_entries}
use Rattle.store_tables.proofs.Entries.{entries_dropped}
use Rattle.store_tables.proofs.Changes.{drops_entries}
use Rattle.store_tables.proofs.Moves.{altered}
use Rattle.store_tables.proofs.write.drop_entries.Goals as goal

pub returns-clause-alters : goal.returns-clause-alters
returns-clause-alters g c =
    altered g.S.Store (without_entries c.args.invocation.now) drop_entries_text (Text c.args.invocation.now ∷ []) c.args.tx.now.conn.now c.run.new.tx.conn.now (drops_entries c.args.invocation.now)
    (entries_dropped c.args.invocation.now)
    c.requires c.run.ensures.survives _ (rw c.text.ensures.cell refl) c.run.result c.run.ensures.ran c.run.ensures.refused c.run.ensures.kept
