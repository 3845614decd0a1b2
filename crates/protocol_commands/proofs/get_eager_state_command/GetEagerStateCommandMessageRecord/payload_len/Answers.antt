use Rattle.std.proofs.Common.{refl, []}
use Rattle.protocol_wire.proofs.Lengths.{measured, counting_block}
use Rattle.protocol_records.specs.Choice.{choice_parts}
use Rattle.protocol_commands.specs.GetEagerStateCommand.{get_eager_state_command_parts}
use Rattle.protocol_commands.specs.Choices.{eager_choice}
use Rattle.protocol_commands.proofs.get_eager_state_command.GetEagerStateCommandMessageRecord.payload_len.Goals as goal

pub returns : goal.returns
returns c = measured (get_eager_state_command_parts c.args.self.now) _ (_, c.len_bytes-len.ensures, (_, c.len_text-len.ensures, counting_block (choice_parts eager_choice c.args.self.now.result) ([]) _ _ _ tt c.len_result.ensures refl))
