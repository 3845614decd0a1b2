use Rattle.std.proofs.Common.{◌∙◌, sym}
use Rattle.protocol_wire.proofs.Steps.{varint_is_shorter, are_varints_read, are_varints_ended, is_end_is}
use Rattle.protocol_wire.proofs.check.are_varints.Goals as goal

pub loop-after-smaller : goal.loop-after-smaller
loop-after-smaller c = varint_is_shorter c.loop-after.rest.now c.in-Some.field-0-0 c.in-Some.after.now c.in-Some.ensures

pub loop-after-preserved : goal.loop-after-preserved
loop-after-preserved c = sym (are_varints_read c.loop-after.rest.now c.in-Some.field-0-0 c.in-Some.after.now c.in-Some.ensures) ∙ c.loop-after.invariant

pub returns : goal.returns
returns c = c.is_empty.ensures ∙ is_end_is c.loop-after.rest.now ∙ sym (are_varints_ended c.loop-after.rest.now c.in_default.ensures) ∙ c.loop-after.invariant
