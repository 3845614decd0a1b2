use Rattle.std.proofs.Common.{◌≡◌, ◌∙◌, ◌∷◌, length, sym, arith}
use Rattle.store_tables.proofs.Columns.{twenty_two}
use Rattle.store_tables.proofs.from_row.invocation_from.Goals as goal

pub returns-clause-ok : goal.returns-clause-ok
returns-clause-ok c =
    let len : length c.args.row.now ≡ 22 = omega (arith, c.column_count.ensures) in
    let all = twenty_two c.args.row.now len in (
      (λ i.
          c.in_ok-id.ensures.ok.1 i ∷ c.in_ok-object.ensures.ok.1 i ∷ c.in_ok-version.ensures.ok i ∷ c.in_ok-seed.ensures.ok.1 i ∷ c.in_ok-is_whole.ensures.ok.1 i
          ∷ c.in_ok-progress.ensures.ok.0 i)
          ∙ sym all,
      record {
        id = c.in_ok-id.ensures.ok.2;
        object = c.in_ok-object.ensures.ok.2;
        seed = c.in_ok-seed.ensures.ok.2;
        progress = c.in_ok-progress.ensures.ok.1;
      },
    )
