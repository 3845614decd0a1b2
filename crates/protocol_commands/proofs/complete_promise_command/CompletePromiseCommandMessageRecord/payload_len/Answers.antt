use Rattle.std.proofs.Common.{refl, [], ◌∷◌}
use Rattle.protocol_wire.specs.Parts.{plain_bytes, plain_number}
use Rattle.protocol_wire.proofs.Lengths.{measured, counting_block}
use Rattle.protocol_table.specs.declared.table.complete_promise_command.TheConstants.{NAME, RESULT_COMPLETION_ID}
use Rattle.protocol_records.specs.Choice.{choice_parts}
use Rattle.protocol_commands.specs.CompletePromiseCommand.{complete_promise_command_parts}
use Rattle.protocol_commands.specs.Choices.{promise_choice}
use Rattle.protocol_commands.proofs.complete_promise_command.CompletePromiseCommandMessageRecord.payload_len.Goals as goal

pub returns : goal.returns
returns c = measured (complete_promise_command_parts c.args.self.now) _ (_, c.len_text-len.ensures, counting_block (choice_parts promise_choice c.args.self.now.completion) (plain_number RESULT_COMPLETION_ID.number c.args.self.now.result_completion_id ∷ plain_bytes NAME.number c.args.self.now.name ∷ []) _ _ _ tt c.len_completion-len.ensures (_, c.len_u32-len.ensures, (_, c.len_text.ensures, refl)))
