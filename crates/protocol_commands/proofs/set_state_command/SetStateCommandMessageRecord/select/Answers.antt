use Rattle.std.proofs.Common.{refl}
use Rattle.protocol_table.specs.declared.table.RecordType.TheVariants as types
use Rattle.protocol_table.specs.declared.table.set_state_command.TheConstants as table
use Rattle.protocol_wire.proofs.SoundAt.{texts_sound, records_sound}
use Rattle.protocol_commands.proofs.set_state_command.SetStateCommandMessageRecord.select.Goals as goal

pub optional_record_at-requires : goal.optional_record_at-requires
optional_record_at-requires c = records_sound c.args.levels types.SetStateCommand types.Value table.VALUE.number c.args.payload.now c.requires refl

pub text_at-requires : goal.text_at-requires
text_at-requires c = texts_sound c.args.levels types.SetStateCommand table.NAME.number c.args.payload.now c.requires refl
