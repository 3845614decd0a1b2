use Rattle.std.proofs.Common.{[], ◌∷◌, ◌++◌, ◌∙◌, sym, ap, rules, arith, take}
use Rattle.std.specs.List.{flat_map}
use Rattle.std.proofs.Output.{has_written_append, has_written_of_eq}
use Rattle.std.proofs.lemmas.List.{take_more, flat_map_more}
use Rattle.protocol_types.specs.Texts.{later_text}
use Rattle.protocol_types.proofs.parts.show_later.Goals as goal

pub loop-item-preserved : goal.loop-item-preserved
loop-item-preserved g c = λ p.
    let items = c.args.items.now in
    let i = c.loop-item.item-index in
    let item = c.item-item.result in
    let text = later_text g.T.Shown.text in
    has_written_of_eq _ _ _ _ _
    (flat_map_more text [] (take i items) item ∙ (λ j. flat_map text (take i items ++ c.item-item.is j ∷ [])) ∙ ap (flat_map text) (sym (take_more items i item (omega arith))))
    (has_written_append _ _ (flat_map text (take i items)) _ (text item) _ (c.loop-item.invariant p) (search rules))
