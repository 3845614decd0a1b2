use Rattle.std.proofs.Common.{ℕ, List, [], ◌∷◌, ◌++◌, ◌∙◌, sym, ap, rules, arith, take}
use Rattle.std.specs.List.{flat_map}
use Rattle.std.proofs.Output.{has_written_append, has_written_of_eq}
use Rattle.std.proofs.lemmas.List.{take_more, flat_map_more}
use Rattle.call_lines.specs.Reply.{handle_text}
use Rattle.call_lines.proofs.reply.FurtherHandlesDisplay.fmt.Goals as goal

pub loop-handle-preserved : goal.loop-handle-preserved
loop-handle-preserved g c = λ p.
    let handles = c.args.self.now.0.now in
    let i = c.loop-handle.handle-index in
    let handle = c.handle-item.result in
    has_written_of_eq _ _ _ _ _
    (
    flat_map_more handle_text [] (take i handles) handle
    ∙ (λ j. flat_map handle_text (take i handles ++ c.handle-item.is j ∷ []))
    ∙ ap (λ (hs : List ℕ). flat_map handle_text hs) (sym (take_more handles i handle (omega arith)))
    )
    (has_written_append _ _ (flat_map handle_text (take i handles)) _ (handle_text handle) _ (c.loop-handle.invariant p) (has_written_of_eq _ _ _ _ _ (ap handle_text c.number-number.ensures) (search rules)))
