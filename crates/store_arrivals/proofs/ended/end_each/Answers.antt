use Rattle.std.proofs.Common.{◌≡◌, ◌∙◌, sym, subst, ℕ, List, ◌++◌, append-nil, map}
use Rattle.std.proofs.lemmas.List.{drop_all}
use Rattle.store_tables.specs.declared.row.Write.TheVariants.{AddEntry}
use Rattle.store_arrivals.specs.SleepEnds.{end_rows}
use Rattle.store_arrivals.proofs.ended.end_each.Goals as goal

pub returns : goal.returns
returns c =
    sym (append-nil c.loop-completion.writes.items)
    ∙ subst (λ (left : List ℕ). c.loop-completion.writes.items ++ map AddEntry (end_rows c.args.id.now c.loop-completion.next c.loop-completion.known left) ≡ c.args.writes.now.items ++ map AddEntry (end_rows c.args.id.now c.args.place c.args.before c.args.completions.now))
    (drop_all c.loop-completion.completion-index c.args.completions.now c.loop-completion-test.false) c.loop-completion.invariant.written
