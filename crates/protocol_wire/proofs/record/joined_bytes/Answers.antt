use Rattle.std.proofs.Common.{◌∙◌, refl}
use Rattle.protocol_wire.specs.CodeFields.{field}
use Rattle.protocol_wire.specs.ComingFields.{coming}
use Rattle.protocol_wire.proofs.Joined.{joined_step}
use Rattle.protocol_wire.proofs.record.joined_bytes.Goals as goal

pub loop-found-preserved-in-Continue-1 : goal.loop-found-preserved-in-Continue-1
loop-found-preserved-in-Continue-1 c = record {
  joined = rw c.in_ok-extend_from_slice.ensures.items (joined_step c.loop-found.is_present c.loop-found.all.items c.in-Bytes.bytes.now c.args.field.number (field c.in-Some.found) (coming c.loop-found.found-iterator) (coming c.next.new.self)
      c.loop-found.invariant.empty c.in-Some.ensures.steps c.if-found-field.true (rw c.in-Bytes.is refl) ∙ c.loop-found.invariant.joined);
  empty = λ e. absurd cc;
}
