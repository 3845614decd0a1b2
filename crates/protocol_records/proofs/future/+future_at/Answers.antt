use Rattle.std.proofs.Common.{◌-◌, refl, arith, rules}
use Rattle.std.proofs.lemmas.List.{append-nil}
use Rattle.protocol_wire.specs.CodeFields.{field}
use Rattle.protocol_wire.specs.Fields.{fields}
use Rattle.protocol_wire.specs.ComingFields.{coming}
use Rattle.protocol_wire.specs.Check.{payload_fault}
use Rattle.protocol_wire.specs.Selection.{texts}
use Rattle.protocol_table.specs.declared.table.RecordType.TheVariants.{Future as future_type}
use Rattle.protocol_wire.proofs.SoundAt.{records_sound, texts_sound, level_left, sound_first}
use Rattle.protocol_table.specs.declared.table.future.TheConstants.{NESTED_FUTURES, WAITING_NAMED_SIGNALS}
use Rattle.protocol_records.proofs.Futures.{future_of_is}
use Rattle.protocol_records.proofs.future.+future_at.Goals as goal

pub loop-found-init : goal.loop-found-init
unfolding texts
loop-found-init t c =
    let sound = records_sound c.args.levels future_type future_type NESTED_FUTURES.number c.args.payload.now c.requires refl in
    search rules

pub overflow_sub-levels : goal.overflow_sub-levels
overflow_sub-levels t c = omega (arith, level_left c.args.levels future_type c.args.payload.now c.requires)

pub future_at-requires : goal.future_at-requires
future_at-requires t c = (
  omega (arith, level_left c.args.levels future_type c.args.payload.now c.requires, c.decreases),
  rw c.listed_in-nested.ensures (sound_first (payload_fault (c.args.levels - 1) future_type) NESTED_FUTURES.number (field c.in-Some.found) (coming c.loop-found.found-iterator) (coming c.next.new.self) c.in-Bytes.bytes.now c.loop-found.invariant.sound c.in-Some.ensures.steps c.if-found.true (rw c.in-Bytes.is refl)),
)

pub texts_at-requires : goal.texts_at-requires
texts_at-requires t c = texts_sound c.args.levels future_type WAITING_NAMED_SIGNALS.number c.args.payload.now c.requires refl

pub returns : goal.returns
returns t c =
    let below = c.args.levels - 1 in
    let inv = c.loop-found.invariant.nested in
    let ended = rw (c.in-None.ensures.steps.0, append-nil) at inv in
    rw (future_of_is c.args.levels (fields c.args.payload.now) (level_left c.args.levels future_type c.args.payload.now c.requires), c.in_ok-numbers_at.ensures, c.in_ok-numbers_at-2.ensures, c.in_ok-texts_at.ensures, ended, c.combinator_at.ensures, c.u32_at.ensures, c.u32_at-2.ensures) refl
