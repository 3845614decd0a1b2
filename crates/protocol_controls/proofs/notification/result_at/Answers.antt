use Rattle.std.proofs.Common.{refl}
use Rattle.protocol_table.specs.declared.table.RecordType.TheVariants as types
use Rattle.protocol_table.specs.declared.table.notification.TheConstants as table
use Rattle.protocol_wire.proofs.SoundAt.{records_sound, texts_sound}
use Rattle.protocol_controls.proofs.notification.result_at.Goals as goal

pub chosen_record_at-requires : goal.chosen_record_at-requires
chosen_record_at-requires c = (refl, records_sound c.args.levels types.Notification types.Void table.VOID.number c.args.payload.now c.requires refl)

pub chosen_record_at-requires-2 : goal.chosen_record_at-requires-2
chosen_record_at-requires-2 c = (refl, records_sound c.args.levels types.Notification types.Value table.VALUE.number c.args.payload.now c.requires refl)

pub chosen_record_at-requires-3 : goal.chosen_record_at-requires-3
chosen_record_at-requires-3 c = (refl, records_sound c.args.levels types.Notification types.Failure table.FAILURE.number c.args.payload.now c.requires refl)

pub chosen_text_at-requires : goal.chosen_text_at-requires
chosen_text_at-requires c = (refl, texts_sound c.args.levels types.Notification table.INVOCATION_ID.number c.args.payload.now c.requires refl)

pub chosen_record_at-requires-4 : goal.chosen_record_at-requires-4
chosen_record_at-requires-4 c = (refl, records_sound c.args.levels types.Notification types.StateKeys table.STATE_KEYS.number c.args.payload.now c.requires refl)
