use Rattle.std.proofs.Common.{◌≡◌, ℕ, List, []}
use Rattle.std.proofs.lemmas.Result.{err_from_is_err_and}
use Rattle.server_lines.specs.RequestReader.{ids_of}
use Rattle.server_lines.proofs.Ids.{all_read, behind, behind_none, not_read, read_on}
use Rattle.server_lines.proofs.request.parse_ids.Goals as goal

begun : (front words : List (List ℕ)) → front ≡ [] → behind front (ids_of words) ≡ ids_of words
begun front words e = rw e (behind_none (ids_of words))

pub loop-word-init : goal.loop-word-init
loop-word-init c = begun _ _ c.new-ids.ensures

pub loop-word-preserved : goal.loop-word-preserved
loop-word-preserved c =
    read_on c.args.words.now c.loop-word.word-index c.loop-word.ids c.push.new.self _ c.in_ok-id.id c.loop-word-test.true c.loop-word.invariant c.in_ok-id.ensures c.in_ok-push.ensures.ok

pub returns : goal.returns
returns c = all_read c.args.words.now c.loop-word.word-index c.loop-word.ids c.loop-word-test.false c.loop-word.invariant

pub returns-in_err-id : goal.returns-in_err-id
returns-in_err-id c =
    let p = err_from_is_err_and c.from_residual.result c.from_residual.ensures.1 in
    rw (p.1, p.2) (not_read c.args.words.now c.loop-word.word-index c.loop-word.ids _ c.in_err-id.field-0.0 c.loop-word-test.true c.loop-word.invariant c.in_err-id.ensures)
