use Rattle.std.proofs.Common.{◌≡◌, suc, ◌∷◌, ◌++◌, take, drop, sym, subst, ◌∙◌, arith}
use Rattle.std.proofs.Math.Seq.{drop-cons}
use Rattle.std.proofs.lemmas.List.{take-append-drop}
use Rattle.std.specs.Str.{IsUtf8}
use Rattle.std.proofs.lemmas.Bool.{true≢false}
use Rattle.protocol_messages.proofs.taken.text_keys.Goals as goal

-- this key is the one that is no text
pub returns-in-Err-clause-err : goal.returns-in-Err-clause-err
returns-in-Err-clause-err c =
    let keys = c.args.keys.now in
    let i = c.loop-key.key-index in
    let key = c.key-item.result in
    let here : keys ≡ take i keys ++ key ∷ drop (suc i) keys =
    sym (take-append-drop i keys) ∙ (λ j. take i keys ++ drop-cons keys i key (omega arith) j) ∙ (λ j. take i keys ++ sym c.key-item.is j ∷ drop (suc i) keys) in
    (take i keys, key, drop (suc i) keys, here, λ utf8. true≢false (sym (c.in-Err.ensures.variant.1 (subst IsUtf8 (sym c.in_ok-clone.ensures.cases) utf8))))
