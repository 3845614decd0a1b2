use Rattle.std.proofs.Common.{◌∙◌, refl, sym, arith}
use Rattle.std.specs.Prelude.{IfSome, ⊤}
use Rattle.sqlite.specs.Values.{or_null}
use Rattle.sql_tables.specs.Cells.{IsShort, flag_cell, short_cell}
use Rattle.sql_tables.proofs.RowReads.{cell_of, err_and}
use Rattle.store_tables.specs.Records.{invocation_cells}
use Rattle.store_tables.proofs.from_row.progress_from.Goals as goal

pub returns-in_err-heard-clause-foreign : goal.returns-in_err-heard-clause-foreign
returns-in_err-heard-clause-foreign c =
    err_and c.from_residual-in_err-heard.result c.from_residual-in_err-heard.ensures.1 (λ e gives is x fits same.
    c.in_err-heard.ensures.foreign (sym gives ∙ is) x.progress.heard
    (cell_of (or_null short_cell) (λ o. IfSome o IsShort) (invocation_cells x) c.args.row.now same 19 (omega arith) x.progress.heard refl fits.progress.heard))

pub returns-in_err-is_awake-clause-foreign : goal.returns-in_err-is_awake-clause-foreign
returns-in_err-is_awake-clause-foreign c =
    err_and c.from_residual-in_err-is_awake.result c.from_residual-in_err-is_awake.ensures.1 (λ e gives is x fits same.
    c.in_err-is_awake.ensures.foreign (sym gives ∙ is) x.progress.is_awake
    (cell_of flag_cell (λ _. ⊤) (invocation_cells x) c.args.row.now same 21 (omega arith) x.progress.is_awake refl tt))
