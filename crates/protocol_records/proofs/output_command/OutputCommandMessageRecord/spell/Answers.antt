use Rattle.std.proofs.Common.{refl, []}
use Rattle.protocol_wire.proofs.Puts.{chained, chain_block}
use Rattle.protocol_records.specs.Choice.{choice_parts}
use Rattle.protocol_records.specs.OutputCommand.{output_command_parts, output_choice}
use Rattle.protocol_records.proofs.output_command.OutputCommandMessageRecord.spell.Goals as goal

pub returns : goal.returns
returns c = chained (output_command_parts c.args.self.now) c.args.out.now.items _ (_, c.in_ok-put_text.ensures, chain_block (choice_parts output_choice c.args.self.now.result) [] _ _ _ c.in_ok-put_result.ensures refl)
