use Rattle.std.proofs.Common.{sym, subst}
use Rattle.protocol_wire.specs.declared.record.TheConstants.{LEVELS}
use Rattle.protocol_laws.proofs.what_was_read_fits.Goals as goal

pub returns-clause-fits : goal.returns-clause-fits
returns-clause-fits g c a v are_bytes read = subst (g.R.Record.fits LEVELS) (sym read.value) (g.met.R.FitsRead.fits_read LEVELS a are_bytes read.sound)

pub returns-clause-again : goal.returns-clause-again
returns-clause-again g c a v are_bytes read small = g.met.R.Record.reads LEVELS v (subst (g.R.Record.fits LEVELS) (sym read.value) (g.met.R.FitsRead.fits_read LEVELS a are_bytes read.sound)) small
