use Rattle.std.proofs.Common.{refl}
use Rattle.protocol_table.specs.declared.table.RecordType.TheVariants as types
use Rattle.protocol_table.specs.declared.table.notification.TheConstants as table
use Rattle.protocol_wire.proofs.SoundAt.{texts_sound}
use Rattle.protocol_controls.proofs.notification.id_at.Goals as goal

pub chosen_u32_at-requires : goal.chosen_u32_at-requires
chosen_u32_at-requires c = refl

pub chosen_u32_at-requires-2 : goal.chosen_u32_at-requires-2
chosen_u32_at-requires-2 c = refl

pub chosen_text_at-requires : goal.chosen_text_at-requires
chosen_text_at-requires c = (refl, texts_sound c.args.levels types.Notification table.SIGNAL_NAME.number c.args.payload.now c.requires refl)
