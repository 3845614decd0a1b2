use Rattle.std.proofs.Common.{◌≡◌, ◌∙◌, refl, sym, ap, arith}
use Rattle.sqlite_value.specs.Order.{Row, column}
use Rattle.sql_tables.specs.Cells.{IsShort, short_cell}
use Rattle.sql_tables.proofs.RowReads.{cell_of, err_and}
use Rattle.store_tables.specs.Kinds.{kept_kind}
use Rattle.store_tables.specs.Records.{entry_cells}
use Rattle.store_tables.proofs.KeptKinds.{kept_of, kind_fits, none_kept}
use Rattle.store_tables.proofs.Back.{short_in, short_back}
use Rattle.store_tables.proofs.from_row.kind_from.Goals as goal

pub returns-in_err-number-clause-foreign : goal.returns-in_err-number-clause-foreign
returns-in_err-number-clause-foreign c =
    err_and c.from_residual.result c.from_residual.ensures.1 (λ e gives is x fits same.
    let n = kept_kind x.kind in
    c.in_err-number.ensures.foreign (sym gives ∙ is) n (cell_of short_cell IsShort (entry_cells x) c.args.row.now same 2 (omega arith) n refl (kind_fits x.kind fits.kind)))

pub returns-in-Some-clause-ok : goal.returns-in-Some-clause-ok
returns-in-Some-clause-ok c =
    let of = kept_of c.in_ok-number.number c.in-Some.kind (sym c.kind_kept.ensures ∙ c.in-Some.is) in
    (ap short_cell of.0 ∙ c.in_ok-number.ensures.ok.1, of.1)

pub returns-in-None-clause-foreign : goal.returns-in-None-clause-foreign
returns-in-None-clause-foreign c = λ gives x fits same.
    let number = c.in_ok-number.number in
    let cell : short_cell (kept_kind x.kind) ≡ short_cell number = ap (λ (row : Row). column row 2) same ∙ sym c.in_ok-number.ensures.ok.1 in
    none_kept number (sym c.kind_kept.ensures ∙ c.in-None.is) x.kind fits.kind (sym (short_back (kept_kind x.kind)) ∙ ap short_in cell ∙ short_back number)
