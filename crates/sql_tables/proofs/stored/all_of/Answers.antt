use Rattle.std.proofs.Common.{◌∙◌, sym}
use Rattle.sql_tables.proofs.RowReads.{err_and, foreign_among}
use Rattle.sql_tables.proofs.stored.all_of.Goals as goal

pub returns-in_err-record-clause-foreign : goal.returns-in_err-record-clause-foreign
returns-in_err-record-clause-foreign g c =
    err_and c.from_residual.result c.from_residual.ensures.1 (λ e gives is.
    foreign_among g.R.Stored.cells g.R.Stored.fits c.args.rows.now c.loop-row.row-index c.row-item.result c.loop-row-test.true
    (λ x fits same. c.in_err-record.ensures.foreign (sym gives ∙ is) x fits (same ∙ sym c.row-item.is)))
