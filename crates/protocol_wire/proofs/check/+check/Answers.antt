use Rattle.std.proofs.Common.{◌∙◌, ◌-◌, ◌<◌, sym, arith}
use Rattle.protocol_wire.specs.CodeFields.{field}
use Rattle.protocol_wire.specs.ComingFields.{coming, are_all}
use Rattle.protocol_wire.specs.Check.{payload_fault}
use Rattle.protocol_wire.proofs.Steps.{is_shorter, is_end_is}
use Rattle.protocol_wire.proofs.Faults.{left_fault_read, left_fault_ended, left_fault_is, payload_fault_zero, are_fields_ended, none_behind}
use Rattle.protocol_wire.proofs.check.+check.Goals as goal

pub fault_in-returns-then-levels-eq0 : goal.fault_in-returns-then-levels-eq0
fault_in-returns-then-levels-eq0 t c = rw c.if-levels-eq0.true (sym (payload_fault_zero c.args.of c.args.payload.now))

pub fault_in-loop-field-init : goal.fault_in-loop-field-init
fault_in-loop-field-init t c =
    let some_level : 0 < c.args.levels = omega arith in
    rw c.fields_of-fields.ensures (left_fault_is c.args.levels c.args.of c.args.payload.now c.fields-left.result some_level c.fields-left.ensures.all c.fields-left.ensures.whole)

pub fault_in-loop-field-smaller : goal.fault_in-loop-field-smaller
fault_in-loop-field-smaller t c = is_shorter (coming c.loop-field.left) (coming c.in-Some.after) (field c.in-Some.field) c.in-Some.ensures.some

pub fault_in-loop-field-preserved : goal.fault_in-loop-field-preserved
fault_in-loop-field-preserved t c =
    rw (c.worse-fault.ensures, c.fault_of_field.ensures) (left_fault_read (payload_fault (c.args.levels - 1)) c.fields_of-fields.result.now c.loop-field.fault c.loop-field.left c.in-Some.after (field c.in-Some.field) c.in-Some.ensures.some c.in-Some.ensures.kept ∙ c.loop-field.invariant)

pub fault_in-returns : goal.fault_in-returns
unfolding coming are_all
fault_in-returns t c =
    let left = c.loop-field.left in
    let none = c.in_default.ensures.none in
    let ended = left_fault_ended (payload_fault (c.args.levels - 1)) c.fields_of-fields.result.now left none in
    let end = c.is_empty.ensures ∙ is_end_is left.rest.now ∙ sym (are_fields_ended left.rest.now (none_behind _ left.rest.now none)) in
    rw (c.worse.ensures, c.bad_unless.ensures, end, ← ended) c.loop-field.invariant
