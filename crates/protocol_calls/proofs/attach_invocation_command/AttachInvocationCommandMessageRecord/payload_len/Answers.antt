use Rattle.std.proofs.Common.{refl, [], ◌∷◌}
use Rattle.protocol_wire.specs.Parts.{plain_bytes, plain_number}
use Rattle.protocol_wire.proofs.Lengths.{measured, counting_block}
use Rattle.protocol_table.specs.declared.table.attach_invocation_command.TheConstants.{NAME, RESULT_COMPLETION_ID}
use Rattle.protocol_calls.specs.AttachInvocationCommand.{attach_invocation_command_parts}
use Rattle.protocol_calls.specs.InvocationTarget.{target_parts}
use Rattle.protocol_calls.proofs.attach_invocation_command.AttachInvocationCommandMessageRecord.payload_len.Goals as goal

pub returns : goal.returns
returns c = measured (attach_invocation_command_parts c.args.self.now) _ (counting_block (target_parts c.args.self.now.target) (plain_number RESULT_COMPLETION_ID.number c.args.self.now.result_completion_id ∷ plain_bytes NAME.number c.args.self.now.name ∷ []) _ _ _ tt c.len_target-len.ensures (_, c.len_u32-len.ensures, (_, c.len_text.ensures, refl)))
