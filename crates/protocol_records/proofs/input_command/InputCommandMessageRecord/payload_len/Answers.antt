use Rattle.std.proofs.Common.{refl}
use Rattle.protocol_wire.proofs.Lengths.{measured}
use Rattle.protocol_records.specs.InputCommand.{input_command_parts}
use Rattle.protocol_records.proofs.input_command.InputCommandMessageRecord.payload_len.Goals as goal

pub returns : goal.returns
returns c = measured (input_command_parts c.args.self.now) _ (_, c.len_records-len.ensures, (_, c.len_text-len.ensures, (_, c.len_optional_record.ensures, refl)))
