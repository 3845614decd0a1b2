use Rattle.std.proofs.Common.{◌∙◌, sym, arith}
use Rattle.std.specs.Prelude.{IfSome}
use Rattle.sqlite.specs.Values.{or_null}
use Rattle.sql_tables.specs.Cells.{IsShort, short_cell}
use Rattle.sql_tables.proofs.RowReads.{cell_of, err_and}
use Rattle.store_tables.specs.Records.{invocation_cells}
use Rattle.store_tables.proofs.Columns.{closing_number}
use Rattle.store_tables.proofs.from_row.closing_from.Goals as goal

pub returns-in_err-short_or_none_at-clause-foreign : goal.returns-in_err-short_or_none_at-clause-foreign
returns-in_err-short_or_none_at-clause-foreign c =
    err_and c.from_residual.result c.from_residual.ensures.1 (λ e gives is x fits same.
    let n = closing_number x.progress.closing in
    c.in_err-short_or_none_at.ensures.foreign (sym gives ∙ is) n.0 (cell_of (or_null short_cell) (λ o. IfSome o IsShort) (invocation_cells x) c.args.row.now same 8 (omega arith) n.0 n.1 n.2))
