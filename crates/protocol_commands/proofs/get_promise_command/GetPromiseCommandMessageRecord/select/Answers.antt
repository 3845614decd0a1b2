use Rattle.std.proofs.Common.{refl}
use Rattle.protocol_table.specs.declared.table.RecordType.TheVariants as types
use Rattle.protocol_table.specs.declared.table.get_promise_command.TheConstants as table
use Rattle.protocol_wire.proofs.SoundAt.{texts_sound}
use Rattle.protocol_commands.proofs.get_promise_command.GetPromiseCommandMessageRecord.select.Goals as goal

pub text_at-requires : goal.text_at-requires
text_at-requires c = texts_sound c.args.levels types.GetPromiseCommand table.KEY.number c.args.payload.now c.requires refl

pub text_at-requires-2 : goal.text_at-requires-2
text_at-requires-2 c = texts_sound c.args.levels types.GetPromiseCommand table.NAME.number c.args.payload.now c.requires refl
