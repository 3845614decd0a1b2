use Rattle.std.proofs.Common.{refl}
use Rattle.protocol_table.specs.declared.table.RecordType.TheVariants as types
use Rattle.protocol_table.specs.declared.table.start.TheConstants as table
use Rattle.protocol_wire.proofs.SoundAt.{texts_sound, records_sound}
use Rattle.protocol_records.proofs.start.StartMessageRecord.select.Goals as goal

pub text_at-requires : goal.text_at-requires
text_at-requires c = texts_sound c.args.levels types.Start table.DEBUG_ID.number c.args.payload.now c.requires refl

pub text_at-requires-2 : goal.text_at-requires-2
text_at-requires-2 c = texts_sound c.args.levels types.Start table.KEY.number c.args.payload.now c.requires refl

pub optional_text_at-requires : goal.optional_text_at-requires
optional_text_at-requires c = texts_sound c.args.levels types.Start table.SCOPE.number c.args.payload.now c.requires refl

pub optional_text_at-requires-2 : goal.optional_text_at-requires-2
optional_text_at-requires-2 c = texts_sound c.args.levels types.Start table.LIMIT_KEY.number c.args.payload.now c.requires refl

pub optional_text_at-requires-3 : goal.optional_text_at-requires-3
optional_text_at-requires-3 c = texts_sound c.args.levels types.Start table.IDEMPOTENCY_KEY.number c.args.payload.now c.requires refl

pub records_at-state_map-requires : goal.records_at-state_map-requires
records_at-state_map-requires c = records_sound c.args.levels types.Start types.StateEntry table.STATE_MAP.number c.args.payload.now c.requires refl
