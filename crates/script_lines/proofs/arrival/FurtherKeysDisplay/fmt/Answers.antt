use Rattle.std.proofs.Common.{ℕ, List, [], ◌∷◌, ◌++◌, ◌∙◌, sym, ap, rules, arith, take}
use Rattle.std.specs.List.{flat_map}
use Rattle.std.proofs.Output.{has_written_append, has_written_of_eq}
use Rattle.std.proofs.lemmas.List.{take_more, flat_map_more}
use Rattle.script_lines.specs.Arrival.{further_key}
use Rattle.script_lines.proofs.arrival.FurtherKeysDisplay.fmt.Goals as goal

pub loop-key-preserved : goal.loop-key-preserved
loop-key-preserved g c = λ p.
    let keys = c.args.self.now.0.now in
    let i = c.loop-key.key-index in
    let key = c.key-item.result in
    has_written_of_eq _ _ _ _ _
    (
    flat_map_more further_key [] (take i keys) key
    ∙ (λ j. flat_map further_key (take i keys ++ c.key-item.is j ∷ []))
    ∙ ap (λ (ks : List (List ℕ)). flat_map further_key ks) (sym (take_more keys i key (omega arith)))
    )
    (has_written_append _ _ (flat_map further_key (take i keys)) _ (further_key key) _ (c.loop-key.invariant p) (has_written_of_eq _ _ _ _ _ (ap further_key c.as_slice.ensures) (search rules)))
