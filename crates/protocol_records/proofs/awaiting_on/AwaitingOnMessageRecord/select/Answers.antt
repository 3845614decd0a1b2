use Rattle.std.proofs.Common.{refl}
use Rattle.protocol_table.specs.declared.table.RecordType.TheVariants as types
use Rattle.protocol_table.specs.declared.table.awaiting_on.TheConstants as table
use Rattle.protocol_wire.proofs.SoundAt.{records_sound}
use Rattle.protocol_records.proofs.awaiting_on.AwaitingOnMessageRecord.select.Goals as goal

pub optional_record_at-requires : goal.optional_record_at-requires
optional_record_at-requires c = records_sound c.args.levels types.AwaitingOn types.Future table.AWAITING_ON.number c.args.payload.now c.requires refl
