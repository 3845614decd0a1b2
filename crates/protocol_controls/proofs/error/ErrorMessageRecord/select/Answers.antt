use Rattle.std.proofs.Common.{refl}
use Rattle.protocol_table.specs.declared.table.RecordType.TheVariants as types
use Rattle.protocol_table.specs.declared.table.error.TheConstants as table
use Rattle.protocol_wire.proofs.SoundAt.{texts_sound}
use Rattle.protocol_controls.proofs.error.ErrorMessageRecord.select.Goals as goal

pub text_at-requires : goal.text_at-requires
text_at-requires c = texts_sound c.args.levels types.Error table.MESSAGE.number c.args.payload.now c.requires refl

pub optional_text_at-requires : goal.optional_text_at-requires
optional_text_at-requires c = texts_sound c.args.levels types.Error table.RELATED_COMMAND_NAME.number c.args.payload.now c.requires refl
