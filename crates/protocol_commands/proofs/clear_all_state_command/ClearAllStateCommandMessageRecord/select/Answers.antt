use Rattle.std.proofs.Common.{refl}
use Rattle.protocol_table.specs.declared.table.RecordType.TheVariants as types
use Rattle.protocol_table.specs.declared.table.clear_all_state_command.TheConstants as table
use Rattle.protocol_wire.proofs.SoundAt.{texts_sound}
use Rattle.protocol_commands.proofs.clear_all_state_command.ClearAllStateCommandMessageRecord.select.Goals as goal

pub text_at-requires : goal.text_at-requires
text_at-requires c = texts_sound c.args.levels types.ClearAllStateCommand table.NAME.number c.args.payload.now c.requires refl
