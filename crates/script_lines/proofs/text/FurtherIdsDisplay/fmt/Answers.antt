use Rattle.std.proofs.Common.{ℕ, List, [], ◌∷◌, ◌++◌, ◌∙◌, sym, ap, rules, arith, take}
use Rattle.std.specs.List.{flat_map}
use Rattle.std.proofs.Output.{has_written_append, has_written_of_eq}
use Rattle.std.proofs.lemmas.List.{take_more, flat_map_more}
use Rattle.script_lines.specs.Text.{further_id}
use Rattle.script_lines.proofs.text.FurtherIdsDisplay.fmt.Goals as goal

pub loop-id-preserved : goal.loop-id-preserved
loop-id-preserved g c = λ p.
    let ids = c.args.self.now.0.now in
    let i = c.loop-id.id-index in
    let id = c.id-item.result in
    has_written_of_eq _ _ _ _ _
    (
    flat_map_more further_id [] (take i ids) id
    ∙ (λ j. flat_map further_id (take i ids ++ c.id-item.is j ∷ []))
    ∙ ap (λ (ks : List (List ℕ)). flat_map further_id ks) (sym (take_more ids i id (omega arith)))
    )
    (has_written_append _ _ (flat_map further_id (take i ids)) _ (further_id id) _ (c.loop-id.invariant p) (search rules))
