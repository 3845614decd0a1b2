use Rattle.std.proofs.Common.{◌≡◌, ◌∙◌, ◌∷◌, ◌+◌, ℕ, suc, sym, ap, subst, arith, drop, List}
use Rattle.std.proofs.Math.Seq.{drop-cons}
use Rattle.store_tables.specs.declared.row.EntryRow.{EntryRow}
use Rattle.store_reads.proofs.OpenRequests.{IsCounted, one_counted}
use Rattle.store_reads.proofs.requests.come_in.Goals as goal

pub loop-row-preserved : goal.loop-row-preserved
loop-row-preserved c =
    let i = c.loop-row.row-index in
    let rows = c.args.rows.now in
    let row = c.row-item.result in
    let later : suc i ≡ i + 1 = omega arith in
    let split : drop i rows ≡ row ∷ drop (i + 1) rows =
    drop-cons rows i row (omega (arith, c.loop-row-test.true)) ∙ ap (λ (item : EntryRow). item ∷ drop (suc i) rows) (sym c.row-item.is) ∙ ap (λ (k : ℕ). row ∷ drop k rows) later in
    one_counted rows c.loop-row.come.keys c.add.new.come.keys row (drop (i + 1) rows) c.in_ok-add.ensures
    (subst (λ (left : List EntryRow). IsCounted rows c.loop-row.come.keys left) split c.loop-row.invariant)
