use Rattle.std.proofs.Common.{refl}
use Rattle.protocol_table.specs.declared.table.RecordType.TheVariants as types
use Rattle.protocol_table.specs.declared.table.one_way_call_command.TheConstants as table
use Rattle.protocol_wire.proofs.SoundAt.{texts_sound, records_sound}
use Rattle.protocol_calls.proofs.one_way_call_command.OneWayCallCommandMessageRecord.select.Goals as goal

pub text_at-requires : goal.text_at-requires
text_at-requires c = texts_sound c.args.levels types.OneWayCallCommand table.SERVICE_NAME.number c.args.payload.now c.requires refl

pub text_at-requires-2 : goal.text_at-requires-2
text_at-requires-2 c = texts_sound c.args.levels types.OneWayCallCommand table.HANDLER_NAME.number c.args.payload.now c.requires refl

pub text_at-requires-3 : goal.text_at-requires-3
text_at-requires-3 c = texts_sound c.args.levels types.OneWayCallCommand table.KEY.number c.args.payload.now c.requires refl

pub records_at-requires : goal.records_at-requires
records_at-requires c = records_sound c.args.levels types.OneWayCallCommand types.Header table.HEADERS.number c.args.payload.now c.requires refl

pub text_at-requires-4 : goal.text_at-requires-4
text_at-requires-4 c = texts_sound c.args.levels types.OneWayCallCommand table.NAME.number c.args.payload.now c.requires refl

pub optional_text_at-requires : goal.optional_text_at-requires
optional_text_at-requires c = texts_sound c.args.levels types.OneWayCallCommand table.IDEMPOTENCY_KEY.number c.args.payload.now c.requires refl

pub optional_text_at-requires-2 : goal.optional_text_at-requires-2
optional_text_at-requires-2 c = texts_sound c.args.levels types.OneWayCallCommand table.SCOPE.number c.args.payload.now c.requires refl

pub optional_text_at-requires-3 : goal.optional_text_at-requires-3
optional_text_at-requires-3 c = texts_sound c.args.levels types.OneWayCallCommand table.LIMIT_KEY.number c.args.payload.now c.requires refl
