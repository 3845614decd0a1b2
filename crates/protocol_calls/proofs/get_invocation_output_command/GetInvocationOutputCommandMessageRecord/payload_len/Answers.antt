use Rattle.std.proofs.Common.{refl, [], ◌∷◌}
use Rattle.protocol_wire.specs.Parts.{plain_bytes, plain_number}
use Rattle.protocol_wire.proofs.Lengths.{measured, counting_block}
use Rattle.protocol_table.specs.declared.table.get_invocation_output_command.TheConstants.{NAME, RESULT_COMPLETION_ID}
use Rattle.protocol_calls.specs.GetInvocationOutputCommand.{get_invocation_output_command_parts}
use Rattle.protocol_calls.specs.InvocationTarget.{target_parts}
use Rattle.protocol_calls.proofs.get_invocation_output_command.GetInvocationOutputCommandMessageRecord.payload_len.Goals as goal

pub returns : goal.returns
returns c = measured (get_invocation_output_command_parts c.args.self.now) _ (counting_block (target_parts c.args.self.now.target) (plain_number RESULT_COMPLETION_ID.number c.args.self.now.result_completion_id ∷ plain_bytes NAME.number c.args.self.now.name ∷ []) _ _ _ tt c.len_target-len.ensures (_, c.len_u32-len.ensures, (_, c.len_text.ensures, refl)))
