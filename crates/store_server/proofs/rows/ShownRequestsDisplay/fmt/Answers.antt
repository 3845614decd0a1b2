use Rattle.std.proofs.Common.{ℕ, List, [], ◌∷◌, ◌++◌, ◌∙◌, sym, ap, rules, arith, take}
use Rattle.std.specs.List.{flat_map}
use Rattle.std.proofs.Output.{has_written_append, has_written_of_eq}
use Rattle.std.proofs.lemmas.List.{take_more, flat_map_more}
use Rattle.store_reads.specs.declared.requests.OpenRequest.{OpenRequest}
use Rattle.store_server.specs.Rows.{open_request_shown}
use Rattle.store_server.proofs.rows.ShownRequestsDisplay.fmt.Goals as goal

pub loop-request-preserved : goal.loop-request-preserved
loop-request-preserved g c = λ p.
    let items = c.deref-request-items.result.now in
    let i = c.loop-request.request-index in
    let one = c.request-item.result in
    let shown = open_request_shown c.args.self.now.id in
    has_written_of_eq _ _ _ _ _
    (
    flat_map_more shown [] (take i items) one
    ∙ (λ j. flat_map shown (take i items ++ c.request-item.is j ∷ []))
    ∙ ap (λ (ks : List OpenRequest). flat_map shown ks) (sym (take_more items i one (omega arith)))
    )
    (has_written_append _ _ (flat_map shown (take i items)) _ (shown one) _ (c.loop-request.invariant p)
    (has_written_of_eq _ _ _ _ _ (ap (λ (text : List ℕ). text ++ 10 ∷ []) c.request_reply-reply.ensures) (search rules)))
