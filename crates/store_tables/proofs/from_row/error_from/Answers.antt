use Rattle.std.proofs.Common.{◌∙◌, sym, arith}
use Rattle.std.specs.Prelude.{IfSome, IsUtf8}
use Rattle.sqlite.specs.Values.{or_null}
use Rattle.sqlite.specs.declared.types.Value.TheVariants.{Text}
use Rattle.sql_tables.specs.Cells.{IsShort, short_cell}
use Rattle.sql_tables.proofs.RowReads.{cell_of, err_and}
use Rattle.store_tables.specs.Records.{invocation_cells}
use Rattle.store_tables.proofs.Columns.{code_number, behavior_number, message_text}
use Rattle.store_tables.proofs.from_row.error_from.Goals as goal

pub returns-in_err-code-clause-foreign : goal.returns-in_err-code-clause-foreign
returns-in_err-code-clause-foreign c =
    err_and c.from_residual.result c.from_residual.ensures.1 (λ e gives is x fits same.
    let n = code_number x.progress.last_error fits.progress.last_error in
    c.in_err-code.ensures.foreign (sym gives ∙ is) n.0 (cell_of (or_null short_cell) (λ o. IfSome o IsShort) (invocation_cells x) c.args.row.now same 10 (omega arith) n.0 n.1 n.2))

pub returns-in_err-behavior-clause-foreign : goal.returns-in_err-behavior-clause-foreign
returns-in_err-behavior-clause-foreign c =
    err_and c.from_residual-in_err-behavior.result c.from_residual-in_err-behavior.ensures.1 (λ e gives is x fits same.
    let n = behavior_number x.progress.last_error fits.progress.last_error in
    c.in_err-behavior.ensures.foreign (sym gives ∙ is) n.0 (cell_of (or_null short_cell) (λ o. IfSome o IsShort) (invocation_cells x) c.args.row.now same 11 (omega arith) n.0 n.1 n.2))

pub returns-in_err-message-clause-foreign : goal.returns-in_err-message-clause-foreign
returns-in_err-message-clause-foreign c =
    err_and c.from_residual-in_err-message.result c.from_residual-in_err-message.ensures.1 (λ e gives is x fits same.
    let n = message_text x.progress.last_error fits.progress.last_error in
    c.in_err-message.ensures.foreign (sym gives ∙ is) n.0 (cell_of (or_null Text) (λ o. IfSome o IsUtf8) (invocation_cells x) c.args.row.now same 13 (omega arith) n.0 n.1 n.2))
