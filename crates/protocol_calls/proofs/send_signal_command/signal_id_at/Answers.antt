use Rattle.std.proofs.Common.{refl}
use Rattle.protocol_table.specs.declared.table.RecordType.TheVariants as types
use Rattle.protocol_table.specs.declared.table.send_signal_command.TheConstants as table
use Rattle.protocol_wire.proofs.SoundAt.{texts_sound}
use Rattle.protocol_calls.proofs.send_signal_command.signal_id_at.Goals as goal

pub chosen_u32_at-requires : goal.chosen_u32_at-requires
chosen_u32_at-requires c = refl

pub chosen_text_at-requires : goal.chosen_text_at-requires
chosen_text_at-requires c = (refl, texts_sound c.args.levels types.SendSignalCommand table.NAME.number c.args.payload.now c.requires refl)
