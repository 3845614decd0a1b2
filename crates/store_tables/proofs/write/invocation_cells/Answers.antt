use Rattle.store_tables.proofs.write.invocation_cells.Goals as goal

pub returns-clause-fits : goal.returns-clause-fits
returns-clause-fits c = record { id = c.text.ensures.fits; object = c.text-2.ensures.fits; seed = c.long.ensures.fits; progress = c.progress_cells.ensures.fits }
