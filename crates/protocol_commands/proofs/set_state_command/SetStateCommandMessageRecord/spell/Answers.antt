use Rattle.std.proofs.Common.{refl}
use Rattle.protocol_wire.proofs.Puts.{chained}
use Rattle.protocol_commands.specs.Fields.{set_state_command_parts}
use Rattle.protocol_commands.proofs.set_state_command.SetStateCommandMessageRecord.spell.Goals as goal

pub returns : goal.returns
returns c = chained (set_state_command_parts c.args.self.now) c.args.out.now.items _ (_, c.in_ok-put_bytes.ensures, (_, c.in_ok-put_optional_record.ensures, (_, c.in_ok-put_text.ensures, refl)))
