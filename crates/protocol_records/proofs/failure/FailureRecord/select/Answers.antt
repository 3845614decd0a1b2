use Rattle.std.proofs.Common.{refl}
use Rattle.protocol_table.specs.declared.table.RecordType.TheVariants as types
use Rattle.protocol_table.specs.declared.table.failure.TheConstants as table
use Rattle.protocol_wire.proofs.SoundAt.{texts_sound, records_sound}
use Rattle.protocol_records.proofs.failure.FailureRecord.select.Goals as goal

pub text_at-requires : goal.text_at-requires
text_at-requires c = texts_sound c.args.levels types.Failure table.MESSAGE.number c.args.payload.now c.requires refl

pub records_at-requires : goal.records_at-requires
records_at-requires c = records_sound c.args.levels types.Failure types.FailureMetadata table.METADATA.number c.args.payload.now c.requires refl
