use Rattle.std.proofs.Common.{refl}
use Rattle.protocol_table.specs.declared.table.RecordType.TheVariants as types
use Rattle.protocol_table.specs.declared.table.suspension_v6.TheConstants as table
use Rattle.protocol_wire.proofs.SoundAt.{texts_sound}
use Rattle.protocol_records.proofs.suspension_v6.SuspensionMessageV6Record.select.Goals as goal

pub texts_at-requires : goal.texts_at-requires
texts_at-requires c = texts_sound c.args.levels types.SuspensionV6 table.WAITING_NAMED_SIGNALS.number c.args.payload.now c.requires refl
