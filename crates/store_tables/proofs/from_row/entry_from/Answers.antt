use Rattle.std.proofs.Common.{◌≡◌, ◌∙◌, [], ◌∷◌, length, refl, sym, arith}
use Rattle.std.specs.Prelude.{IsUtf8, ⊤}
use Rattle.sqlite.specs.declared.types.Value.TheVariants.{Blob, Text}
use Rattle.sql_tables.proofs.RowReads.{cell_of, err_and}
use Rattle.store_tables.specs.Records.{entry_cells}
use Rattle.store_tables.proofs.Columns.{nine}
use Rattle.store_tables.proofs.from_row.entry_from.Goals as goal

pub returns-clause-ok : goal.returns-clause-ok
returns-clause-ok c =
    let len : length c.args.row.now ≡ 9 = omega (arith, c.column_count.ensures) in
    let all = nine c.args.row.now len in (
      (λ i.
          c.in_ok-invocation.ensures.ok.1 i ∷ c.in_ok-place.ensures.ok.1 i ∷ c.in_ok-kind.ensures.ok.0 i ∷ c.in_ok-payload.ensures.ok.1 i ∷ c.in_ok-completion.ensures.ok.1 i
          ∷ c.in_ok-second_completion.ensures.ok.1 i ∷ c.in_ok-answered.ensures.ok.1 i ∷ c.in_ok-arrival.ensures.ok.1 i ∷ c.in_ok-moment.ensures.ok.1 i ∷ [])
          ∙ sym all,
      record {
        invocation = c.in_ok-invocation.ensures.ok.2;
        place = c.in_ok-place.ensures.ok.2;
        kind = c.in_ok-kind.ensures.ok.1;
        completion = c.in_ok-completion.ensures.ok.2;
        second_completion = c.in_ok-second_completion.ensures.ok.2;
        answered = c.in_ok-answered.ensures.ok.2;
        arrival = c.in_ok-arrival.ensures.ok.2;
        moment = c.in_ok-moment.ensures.ok.2;
      },
    )

pub returns-in_err-payload-clause-foreign : goal.returns-in_err-payload-clause-foreign
returns-in_err-payload-clause-foreign c =
    err_and c.from_residual-in_err-payload.result c.from_residual-in_err-payload.ensures.1 (λ e gives is x fits same.
    c.in_err-payload.ensures.foreign (sym gives ∙ is) x.payload
    (cell_of Blob (λ _. ⊤) (entry_cells x) c.args.row.now same 3 (omega arith) x.payload refl tt))

pub returns-in_err-invocation-clause-foreign : goal.returns-in_err-invocation-clause-foreign
returns-in_err-invocation-clause-foreign c =
    err_and c.from_residual-in_err-invocation.result c.from_residual-in_err-invocation.ensures.1 (λ e gives is x fits same.
    c.in_err-invocation.ensures.foreign (sym gives ∙ is) x.invocation
    (cell_of Text IsUtf8 (entry_cells x) c.args.row.now same 0 (omega arith) x.invocation refl fits.invocation))
