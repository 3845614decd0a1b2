use Rattle.std.proofs.Common.{◌≡◌, ◌++◌, ◌∙◌, take, ap}
use Rattle.std.proofs.lemmas.List.{take_all}
use Rattle.protocol_records.specs.declared.future.Future.{out-Future}
use Rattle.protocol_messages.proofs.Preorder.{leaves_pushed}
use Rattle.protocol_messages.proofs.suspension.+push_leaves.Goals as goal

pub returns : goal.returns
returns t c =
    let items = c.as_slice-nested-items.result.now in
    let f = c.args.future.now in
    let old = c.args.lists.now in
    let whole : take c.loop-nested.nested-index items ≡ (out-Future f).nested_futures = take_all c.loop-nested.nested-index items c.loop-nested-test.false ∙ c.as_slice-nested-items.ensures in
    let completions : c.push_numbers.new.out ≡ old.waiting_completions ++ (out-Future f).waiting_completions = c.in_ok-push_numbers.ensures ∙ ap (λ s. old.waiting_completions ++ s) c.as_slice.ensures in
    let signals : c.push_numbers-2.new.out ≡ old.waiting_signals ++ (out-Future f).waiting_signals = c.in_ok-push_numbers-2.ensures ∙ ap (λ s. old.waiting_signals ++ s) c.as_slice-2.ensures in
    let names : c.push_names.new.out ≡ old.waiting_named_signals ++ (out-Future f).waiting_named_signals = c.in_ok-push_names.ensures ∙ ap (λ s. old.waiting_named_signals ++ s) c.as_slice-3.ensures in
    c.loop-nested.invariant ∙ leaves_pushed old _ f (take c.loop-nested.nested-index items) completions signals names whole
