use Rattle.std.proofs.Common.{◌∙◌, refl, sym, arith}
use Rattle.sql_tables.specs.Cells.{IsShort, short_cell}
use Rattle.sql_tables.proofs.RowReads.{cell_of, err_and}
use Rattle.store_tables.specs.Records.{invocation_cells}
use Rattle.store_tables.proofs.from_row.counts_from.Goals as goal

pub returns-in_err-short_at-5-clause-foreign : goal.returns-in_err-short_at-5-clause-foreign
returns-in_err-short_at-5-clause-foreign c =
    err_and c.from_residual-in_err-short_at-5.result c.from_residual-in_err-short_at-5.ensures.1 (λ e gives is x fits same.
    c.in_err-short_at-5.ensures.foreign (sym gives ∙ is) x.progress.arrivals
    (cell_of short_cell IsShort (invocation_cells x) c.args.row.now same 20 (omega arith) x.progress.arrivals refl fits.progress.arrivals))
