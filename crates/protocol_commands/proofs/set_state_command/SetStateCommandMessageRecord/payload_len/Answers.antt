use Rattle.std.proofs.Common.{refl}
use Rattle.protocol_wire.proofs.Lengths.{measured}
use Rattle.protocol_commands.specs.Fields.{set_state_command_parts}
use Rattle.protocol_commands.proofs.set_state_command.SetStateCommandMessageRecord.payload_len.Goals as goal

pub returns : goal.returns
returns c = measured (set_state_command_parts c.args.self.now) _ (_, c.len_bytes-len.ensures, (_, c.len_optional_record-len.ensures, (_, c.len_text.ensures, refl)))
