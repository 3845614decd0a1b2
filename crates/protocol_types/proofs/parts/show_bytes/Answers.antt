use Rattle.std.proofs.Common.{ℕ, List, [], ◌∙◌, sym, ap, rules, arith, take, get_or}
use Rattle.std.specs.List.{flat_map}
use Rattle.std.proofs.Output.{has_written_append, has_written_of_eq}
use Rattle.std.proofs.lemmas.List.{take_more, flat_map_more}
use Rattle.protocol_types.specs.Texts.{escaped_byte}
use Rattle.protocol_types.proofs.parts.show_bytes.Goals as goal

pub loop-byte-preserved : goal.loop-byte-preserved
loop-byte-preserved g c = λ p.
    let bytes = c.args.bytes.now in
    let i = c.loop-byte.byte-index in
    let byte = get_or bytes i 0 in
    has_written_of_eq _ _ _ _ _
    (flat_map_more escaped_byte [] (take i bytes) byte ∙ ap (λ (bs : List ℕ). flat_map escaped_byte bs) (sym (take_more bytes i 0 (omega arith))))
    (has_written_append _ _ (flat_map escaped_byte (take i bytes)) _ (escaped_byte byte) _ (c.loop-byte.invariant p) (search rules))
