use Rattle.std.proofs.Common.{◌≡◌, ◌∙◌, ◌++◌, take, map, ap, refl, List, ℕ}
use Rattle.std.proofs.lemmas.List.{take_all}
use Rattle.protocol_wire.specs.Parts.{part_spelling, repeated_bytes}
use Rattle.protocol_wire.proofs.Puts.{chained}
use Rattle.protocol_records.specs.declared.future.Future.{Future, out-Future}
use Rattle.protocol_table.specs.declared.table.future.TheConstants.{NESTED_FUTURES}
use Rattle.store_frames.proofs.Trees.{tree_spelling, tree_parts, tree_parts_are}
use Rattle.store_frames.proofs.tree.+spell_tree.Goals as goal

pub returns : goal.returns
returns t c =
    let items = c.as_slice-nested-items.result.now in
    let whole : take c.loop-nested.nested-index items ≡ (out-Future c.args.one.now).nested_futures = take_all c.loop-nested.nested-index items c.loop-nested-test.false ∙ c.as_slice-nested-items.ensures in
    let nested = c.loop-nested.invariant
    ∙ ap (λ (xs : List Future). c.put_texts.new.out.items ++ part_spelling (repeated_bytes NESTED_FUTURES.number (map tree_spelling xs))) whole in
    let number = rw (c.meant_number.ensures (out-Future c.args.one.now).required) at c.in_ok-put_u32.ensures in
    let last = rw c.meant_required-required.ensures at c.in_ok-put_u32-2.ensures in
    chained (tree_parts c.args.one.now) c.args.out.now.items _ (_, c.in_ok-put_numbers.ensures, (_, c.in_ok-put_numbers-2.ensures, (_, c.in_ok-put_texts.ensures, (_, nested, (_, number, (_, last, refl))))))
    ∙ ap (λ (s : List ℕ). c.args.out.now.items ++ s) (tree_parts_are c.args.one.now)
