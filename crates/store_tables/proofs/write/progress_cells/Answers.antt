use Rattle.std.proofs.Common.{refl}
use Rattle.store_tables.proofs.Invocations.{error_fits}
use Rattle.store_tables.proofs.write.progress_cells.Goals as goal

pub returns-clause-cells : goal.returns-clause-cells
returns-clause-cells c =
    rw (c.text_or_null.ensures.cell, c.blob_or_null.ensures, c.short_or_null.ensures.cell, c.closing.ensures, c.blob_or_null-2.ensures, c.error_code.ensures.cell, c.error_behavior.ensures.cell, c.error_delay.ensures.cell, c.error_message.ensures.cell, c.short.ensures.cell, c.short-2.ensures.cell, c.long.ensures.cell, c.short-3.ensures.cell, c.short-4.ensures.cell, c.short_or_null-2.ensures.cell, c.short-5.ensures.cell, c.flag.ensures) refl

pub returns-clause-fits : goal.returns-clause-fits
returns-clause-fits c = record {
  open_object = c.text_or_null.ensures.fits;
  handed = c.short_or_null.ensures.fits;
  last_error = error_fits c.args.progress.now.last_error c.error_code.ensures.fits c.error_behavior.ensures.fits c.error_delay.ensures.fits c.error_message.ensures.fits;
  attempts = c.short.ensures.fits;
  attempts_since_entry = c.short-2.ensures.fits;
  first_moment = c.long.ensures.fits;
  last_completion = c.short-3.ensures.fits;
  entries = c.short-4.ensures.fits;
  heard = c.short_or_null-2.ensures.fits;
  arrivals = c.short-5.ensures.fits;
}
