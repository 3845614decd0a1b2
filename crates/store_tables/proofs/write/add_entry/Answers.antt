use Rattle.std.proofs.Common.{refl}
use Rattle.store_tables.specs.Statements.{add_entry_text}
use Rattle.store_tables.specs.Records.{entry_cells, with_entry}
use Rattle.store_tables.proofs.Entries.{entry_added}
use Rattle.store_tables.proofs.Changes.{adds_entry}
use Rattle.store_tables.proofs.Moves.{altered}
use Rattle.store_tables.proofs.write.add_entry.Goals as goal

pub returns-clause-alters : goal.returns-clause-alters
returns-clause-alters g c =
    altered g.S.Store (with_entry c.args.entry.now) add_entry_text (entry_cells c.args.entry.now) c.args.tx.now.conn.now c.run.new.tx.conn.now (adds_entry c.args.entry.now)
    (entry_added c.args.entry.now (record { invocation = c.text.ensures.fits; place = c.short.ensures.fits; kind = c.kept_kind.ensures.fits; completion = c.short_or_null.ensures.fits; second_completion = c.short_or_null-2.ensures.fits; answered = c.short_or_null-3.ensures.fits; moment = c.long.ensures.fits; arrival = c.short_or_null-4.ensures.fits }))
    c.requires c.run.ensures.survives _ (rw (c.text.ensures.cell, c.short.ensures.cell, c.short-2.ensures.cell, c.kept_kind.ensures.number, c.blob.ensures, c.short_or_null.ensures.cell, c.short_or_null-2.ensures.cell, c.short_or_null-3.ensures.cell, c.long.ensures.cell, c.short_or_null-4.ensures.cell) refl) c.run.result c.run.ensures.ran c.run.ensures.refused c.run.ensures.kept
