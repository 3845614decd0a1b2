use Rattle.std.proofs.Common.{refl}
use Rattle.protocol_table.specs.declared.table.RecordType.TheVariants as types
use Rattle.protocol_table.specs.declared.table.get_eager_state_keys_command.TheConstants as table
use Rattle.protocol_wire.proofs.SoundAt.{texts_sound, records_sound}
use Rattle.protocol_commands.proofs.get_eager_state_keys_command.GetEagerStateKeysCommandMessageRecord.select.Goals as goal

pub text_at-requires : goal.text_at-requires
text_at-requires c = texts_sound c.args.levels types.GetEagerStateKeysCommand table.NAME.number c.args.payload.now c.requires refl

pub optional_record_at-requires : goal.optional_record_at-requires
optional_record_at-requires c = records_sound c.args.levels types.GetEagerStateKeysCommand types.StateKeys table.VALUE.number c.args.payload.now c.requires refl
