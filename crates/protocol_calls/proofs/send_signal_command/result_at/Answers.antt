use Rattle.std.proofs.Common.{refl}
use Rattle.protocol_table.specs.declared.table.RecordType.TheVariants as types
use Rattle.protocol_table.specs.declared.table.send_signal_command.TheConstants as table
use Rattle.protocol_wire.proofs.SoundAt.{records_sound}
use Rattle.protocol_calls.proofs.send_signal_command.result_at.Goals as goal

pub chosen_record_at-requires : goal.chosen_record_at-requires
chosen_record_at-requires c = (refl, records_sound c.args.levels types.SendSignalCommand types.Void table.VOID.number c.args.payload.now c.requires refl)

pub chosen_record_at-requires-2 : goal.chosen_record_at-requires-2
chosen_record_at-requires-2 c = (refl, records_sound c.args.levels types.SendSignalCommand types.Value table.VALUE.number c.args.payload.now c.requires refl)

pub chosen_record_at-requires-3 : goal.chosen_record_at-requires-3
chosen_record_at-requires-3 c = (refl, records_sound c.args.levels types.SendSignalCommand types.Failure table.FAILURE.number c.args.payload.now c.requires refl)
