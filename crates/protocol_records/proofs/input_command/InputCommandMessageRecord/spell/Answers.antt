use Rattle.std.proofs.Common.{refl}
use Rattle.protocol_wire.proofs.Puts.{chained}
use Rattle.protocol_records.specs.InputCommand.{input_command_parts}
use Rattle.protocol_records.proofs.input_command.InputCommandMessageRecord.spell.Goals as goal

pub returns : goal.returns
returns c = chained (input_command_parts c.args.self.now) c.args.out.now.items _ (_, c.in_ok-put_records.ensures, (_, c.in_ok-put_text.ensures, (_, c.in_ok-put_optional_record.ensures, refl)))
