use Rattle.std.proofs.Common.{ℕ, List, [], ◌∷◌, ◌++◌, ◌∙◌, sym, ap, rules, arith, take}
use Rattle.std.specs.List.{flat_map}
use Rattle.std.proofs.Output.{has_written_append, has_written_of_eq}
use Rattle.std.proofs.lemmas.List.{take_more, flat_map_more}
use Rattle.store_server.specs.declared.rows.ListedInvocation.{ListedInvocation}
use Rattle.store_server.specs.Rows.{listed_text}
use Rattle.store_server.proofs.rows.ShownInvocationsDisplay.fmt.Goals as goal

pub loop-listed-preserved : goal.loop-listed-preserved
loop-listed-preserved g c = λ p.
    let items = c.deref-listed-items.result.now in
    let i = c.loop-listed.listed-index in
    let one = c.listed-item.result in
    has_written_of_eq _ _ _ _ _
    (
    flat_map_more listed_text [] (take i items) one
    ∙ (λ j. flat_map listed_text (take i items ++ c.listed-item.is j ∷ []))
    ∙ ap (λ (ks : List ListedInvocation). flat_map listed_text ks) (sym (take_more items i one (omega arith)))
    )
    (has_written_append _ _ (flat_map listed_text (take i items)) _ (listed_text one) _ (c.loop-listed.invariant p)
    (has_written_of_eq _ _ _ _ _ (ap (λ (text : List ℕ). text ++ 10 ∷ []) c.invocation_reply-reply.ensures) (search rules)))
