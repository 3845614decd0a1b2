use Rattle.std.proofs.Common.{refl, []}
use Rattle.protocol_wire.proofs.Puts.{chained, chain_block}
use Rattle.protocol_records.specs.Choice.{choice_parts}
use Rattle.protocol_commands.specs.GetEagerStateCommand.{get_eager_state_command_parts}
use Rattle.protocol_commands.specs.Choices.{eager_choice}
use Rattle.protocol_commands.proofs.get_eager_state_command.GetEagerStateCommandMessageRecord.spell.Goals as goal

pub returns : goal.returns
returns c = chained (get_eager_state_command_parts c.args.self.now) c.args.out.now.items _ (_, c.in_ok-put_bytes.ensures, (_, c.in_ok-put_text.ensures, chain_block (choice_parts eager_choice c.args.self.now.result) ([]) _ _ _ c.in_ok-put_result.ensures refl))
