use Rattle.std.proofs.Common.{refl}
use Rattle.protocol_wire.proofs.Puts.{chained}
use Rattle.protocol_commands.specs.Fields.{get_eager_state_keys_command_parts}
use Rattle.protocol_commands.proofs.get_eager_state_keys_command.GetEagerStateKeysCommandMessageRecord.spell.Goals as goal

pub returns : goal.returns
returns c = chained (get_eager_state_keys_command_parts c.args.self.now) c.args.out.now.items _ (_, c.in_ok-put_text.ensures, (_, c.in_ok-put_optional_record.ensures, refl))
