use Rattle.std.proofs.Common.{◌≡◌, ℕ, List, [], sym, ◌∙◌, eq-eqb}
use Rattle.std.proofs.lemmas.Bool.{eqb-true, false≢true}
use Rattle.std.proofs.lemmas.Result.{err_from_is_err_and}
use Rattle.call_lines.specs.WordReader.{pairs_of}
use Rattle.call_lines.proofs.Pairs.{all_read, behind, behind_none, not_read, one_left, read_on}
use Rattle.call_lines.proofs.word.parse_pairs.Goals as goal

begun : (front : List (List ℕ × List ℕ)) (words : List (List ℕ)) → front ≡ [] → behind front (pairs_of words) ≡ pairs_of words
begun front words e = rw e (behind_none (pairs_of words))

pub loop-left-init : goal.loop-left-init
loop-left-init c = begun _ _ c.new-pairs.ensures

pub returns-in_err-pair : goal.returns-in_err-pair
returns-in_err-pair c =
    let p = err_from_is_err_and c.from_residual.result c.from_residual.ensures.1 in
    rw (p.1, p.2) (not_read c.args.words.now c.loop-left.left.now c.loop-left.pairs _ c.in_err-pair.field-0.0 c.in-len2-up.len_at_least c.loop-left.invariant c.in_err-pair.ensures)

pub loop-left-preserved : goal.loop-left-preserved
loop-left-preserved c =
    read_on c.args.words.now c.loop-left.left.now c.loop-left.pairs c.push.new.self _ c.in_ok-pair.pair c.in-len2-up.len_at_least c.loop-left.invariant c.in_ok-pair.ensures c.in_ok-push.ensures.ok

pub returns-then-is_empty : goal.returns-then-is_empty
returns-then-is_empty c =
    all_read c.args.words.now c.loop-left.left.now c.loop-left.pairs (eqb-true _ _ (sym c.is_empty.ensures ∙ c.if-is_empty.true)) c.loop-left.invariant

pub returns-else-is_empty : goal.returns-else-is_empty
returns-else-is_empty c =
    one_left c.args.words.now c.loop-left.left.now c.loop-left.pairs c.in_default.len_below (λ e. false≢true (sym c.if-is_empty.false ∙ c.is_empty.ensures ∙ eq-eqb _ _ e)) c.loop-left.invariant
