use Rattle.std.proofs.Common.{refl, []}
use Rattle.protocol_wire.proofs.Lengths.{measured, counting_block}
use Rattle.protocol_records.specs.Choice.{choice_parts}
use Rattle.protocol_records.specs.OutputCommand.{output_command_parts, output_choice}
use Rattle.protocol_records.proofs.output_command.OutputCommandMessageRecord.payload_len.Goals as goal

pub returns : goal.returns
returns c = measured (output_command_parts c.args.self.now) _ (_, c.len_text-len.ensures, counting_block (choice_parts output_choice c.args.self.now.result) [] _ _ _ tt c.len_result.ensures refl)
