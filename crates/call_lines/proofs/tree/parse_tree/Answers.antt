use Rattle.std.proofs.Common.{◌≡◌, [], Some, ap, sym, ◌∙◌, arith, eq-eqb, rules, vec_len}
use Rattle.std.proofs.lemmas.Bool.{eqb-true, false≢true}
use Rattle.std.proofs.lemmas.Result.{err_from_is_err_and}
use Rattle.call_lines.proofs.Stacking.{no_root, not_stacked, one_root, two_roots, words_in}
use Rattle.call_lines.proofs.tree.parse_tree.Goals as goal

pub returns-in_err-stack : goal.returns-in_err-stack
returns-in_err-stack c =
    let p = err_from_is_err_and c.from_residual.result c.from_residual.ensures.1 in
    rw (p.1, p.2) (not_stacked (words_in c.args.words.now) c.in_err-stack.field-0.0 c.in_err-stack.ensures)

pub returns-in_default : goal.returns-in_default
returns-in_default c =
    let none : c.in_ok-stack.stack.items ≡ [] = search rules in
    no_root (words_in c.args.words.now) c.in_ok-stack.stack.items c.in_ok-stack.ensures none

pub returns-then-is_empty : goal.returns-then-is_empty
returns-then-is_empty c =
    let zero : vec_len c.pop.new.self ≡ 0 = eqb-true _ _ (sym c.is_empty.ensures ∙ c.if-is_empty.true) in
    one_root (words_in c.args.words.now) c.in_ok-stack.stack.items c.in_ok-stack.ensures c.pop.new.self.items c.in-Some.root c.in-Some.ensures.items (omega (arith, zero, c.pop.new.self.ok.0))
    ∙ ap Some (sym c.new.ensures)

pub returns : goal.returns
returns c =
    two_roots (words_in c.args.words.now) c.in_ok-stack.stack.items c.in_ok-stack.ensures c.pop.new.self.items c.in-Some.root c.in-Some.ensures.items
    (λ e. false≢true (sym c.if-is_empty.false ∙ c.is_empty.ensures ∙ eq-eqb (vec_len c.pop.new.self) 0 (omega (arith, e, c.pop.new.self.ok.0))))
