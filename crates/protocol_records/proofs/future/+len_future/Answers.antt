use Rattle.std.proofs.Common.{◌≡◌, ◌∙◌, take, map, ap, refl, List, ℕ}
use Rattle.std.proofs.lemmas.List.{take_all}
use Rattle.protocol_wire.specs.Parts.{part_spelling, repeated_bytes, payload_of}
use Rattle.protocol_wire.specs.Lengths.{counted_bytes}
use Rattle.protocol_wire.proofs.Lengths.{measured}
use Rattle.protocol_records.specs.declared.future.Future.{Future, out-Future}
use Rattle.protocol_table.specs.declared.table.future.TheConstants.{NESTED_FUTURES}
use Rattle.protocol_records.specs.Future.{future_parts}
use Rattle.protocol_records.proofs.Futures.{nested_is}
use Rattle.protocol_records.proofs.future.+len_future.Goals as goal

pub returns : goal.returns
unfolding future_parts
returns t c =
    let items = c.as_slice-nested-items.result.now in
    let whole : take c.loop-nested.nested-index items ≡ (out-Future c.args.one.now).nested_futures = take_all c.loop-nested.nested-index items c.loop-nested-test.false ∙ c.as_slice-nested-items.ensures in
    let nested = c.loop-nested.invariant
    ∙ ap (λ (xs : List Future). counted_bytes c.len_texts-len.result (part_spelling (repeated_bytes NESTED_FUTURES.number (map (λ f. payload_of (future_parts f)) xs)))) whole
    ∙ ap (λ (ps : List (List ℕ)). counted_bytes c.len_texts-len.result (part_spelling (repeated_bytes NESTED_FUTURES.number ps))) (nested_is (out-Future c.args.one.now).nested_futures) in
    let last = rw c.number.ensures at c.len_enum-len.ensures in
    measured (future_parts c.args.one.now) _ (_, c.len_numbers-len.ensures, (_, c.len_numbers-len-2.ensures, (_, c.len_texts-len.ensures, (_, nested, (_, last, (_, c.len_u32.ensures, refl))))))
