use Rattle.std.proofs.Common.{refl}
use Rattle.protocol_table.specs.declared.table.RecordType.TheVariants as types
use Rattle.protocol_table.specs.declared.table.get_eager_state_command.TheConstants as table
use Rattle.protocol_wire.proofs.SoundAt.{records_sound}
use Rattle.protocol_commands.proofs.get_eager_state_command.result_at.Goals as goal

pub chosen_record_at-requires : goal.chosen_record_at-requires
chosen_record_at-requires c = (refl, records_sound c.args.levels types.GetEagerStateCommand types.Void table.VOID.number c.args.payload.now c.requires refl)

pub chosen_record_at-requires-2 : goal.chosen_record_at-requires-2
chosen_record_at-requires-2 c = (refl, records_sound c.args.levels types.GetEagerStateCommand types.Value table.VALUE.number c.args.payload.now c.requires refl)
