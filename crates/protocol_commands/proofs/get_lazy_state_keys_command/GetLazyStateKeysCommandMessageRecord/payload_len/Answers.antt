use Rattle.std.proofs.Common.{refl}
use Rattle.protocol_wire.proofs.Lengths.{measured}
use Rattle.protocol_commands.specs.Fields.{get_lazy_state_keys_command_parts}
use Rattle.protocol_commands.proofs.get_lazy_state_keys_command.GetLazyStateKeysCommandMessageRecord.payload_len.Goals as goal

pub returns : goal.returns
returns c = measured (get_lazy_state_keys_command_parts c.args.self.now) _ (_, c.len_u32-len.ensures, (_, c.len_text.ensures, refl))
