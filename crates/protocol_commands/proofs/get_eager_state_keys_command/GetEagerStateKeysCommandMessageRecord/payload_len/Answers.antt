use Rattle.std.proofs.Common.{refl}
use Rattle.protocol_wire.proofs.Lengths.{measured}
use Rattle.protocol_commands.specs.Fields.{get_eager_state_keys_command_parts}
use Rattle.protocol_commands.proofs.get_eager_state_keys_command.GetEagerStateKeysCommandMessageRecord.payload_len.Goals as goal

pub returns : goal.returns
returns c = measured (get_eager_state_keys_command_parts c.args.self.now) _ (_, c.len_text-len.ensures, (_, c.len_optional_record.ensures, refl))
