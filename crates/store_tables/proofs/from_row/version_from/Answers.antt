use Rattle.std.proofs.Common.{◌∙◌, refl, sym, arith}
use Rattle.protocol_types.specs.Version.{version_number}
use Rattle.sql_tables.specs.Cells.{IsShort, short_cell}
use Rattle.sql_tables.proofs.RowReads.{cell_of, err_and}
use Rattle.store_tables.specs.Records.{invocation_cells}
use Rattle.store_tables.proofs.Columns.{version_fits}
use Rattle.store_tables.proofs.from_row.version_from.Goals as goal

pub returns-in_err-number-clause-foreign : goal.returns-in_err-number-clause-foreign
returns-in_err-number-clause-foreign c =
    err_and c.from_residual.result c.from_residual.ensures.1 (λ e gives is x fits same.
    let n = version_number x.version in
    c.in_err-number.ensures.foreign (sym gives ∙ is) n (cell_of short_cell IsShort (invocation_cells x) c.args.row.now same 2 (omega arith) n refl (version_fits x.version)))
