use Rattle.std.proofs.Common.{ℕ, List, [], ◌∷◌, ◌++◌, ◌∙◌, sym, ap, rules, arith, take}
use Rattle.std.specs.List.{flat_map}
use Rattle.std.proofs.Output.{has_written_append, has_written_of_eq}
use Rattle.std.proofs.lemmas.List.{take_more, flat_map_more}
use Rattle.server_lines.specs.Reply.{further_word}
use Rattle.server_lines.proofs.reply.FurtherWordsDisplay.fmt.Goals as goal

pub loop-text-preserved : goal.loop-text-preserved
loop-text-preserved g c = λ p.
    let texts = c.args.self.now.0.now in
    let i = c.loop-text.text-index in
    let text = c.text-item.result in
    has_written_of_eq _ _ _ _ _
    (
    flat_map_more further_word [] (take i texts) text
    ∙ (λ j. flat_map further_word (take i texts ++ c.text-item.is j ∷ []))
    ∙ ap (λ (ts : List (List ℕ)). flat_map further_word ts) (sym (take_more texts i text (omega arith)))
    )
    (has_written_append _ _ (flat_map further_word (take i texts)) _ (further_word text) _ (c.loop-text.invariant p) (has_written_of_eq _ _ _ _ _ (ap further_word c.as_bytes.ensures.value) (search rules)))
