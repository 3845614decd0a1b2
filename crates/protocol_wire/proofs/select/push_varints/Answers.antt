use Rattle.std.proofs.Common.{◌∙◌, ◌++◌, sym, ap, map, append_assoc, List, ℕ}
use Rattle.std.proofs.lemmas.List.{append-nil}
use Rattle.protocol_wire.specs.Selection.{low}
use Rattle.protocol_wire.proofs.Steps.{varint_is_shorter, varints_read, varints_ended}
use Rattle.protocol_wire.proofs.select.push_varints.Goals as goal

pub loop-number-smaller : goal.loop-number-smaller
loop-number-smaller c = varint_is_shorter c.loop-number.rest.now c.in-Some.number c.in-Some.after.now c.in-Some.ensures

pub loop-number-preserved : goal.loop-number-preserved
loop-number-preserved c =
    let pushed = c.in_ok-push.ensures.ok in
    let read = varints_read c.loop-number.rest.now c.in-Some.number c.in-Some.after.now c.in-Some.ensures in
    rw (pushed, append_assoc) (ap (λ (xs : List ℕ). c.loop-number.numbers ++ map low xs) (sym read) ∙ c.loop-number.invariant)

pub returns : goal.returns
returns c =
    let ended = varints_ended c.loop-number.rest.now c.in_default.ensures in
    sym (append-nil c.loop-number.numbers) ∙ ap (λ (xs : List ℕ). c.loop-number.numbers ++ map low xs) (sym ended) ∙ c.loop-number.invariant
