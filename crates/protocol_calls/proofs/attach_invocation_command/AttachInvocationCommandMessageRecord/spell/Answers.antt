use Rattle.std.proofs.Common.{refl, [], ◌∷◌}
use Rattle.protocol_wire.specs.Parts.{plain_bytes, plain_number}
use Rattle.protocol_wire.proofs.Puts.{chained, chain_block}
use Rattle.protocol_table.specs.declared.table.attach_invocation_command.TheConstants.{NAME, RESULT_COMPLETION_ID}
use Rattle.protocol_calls.specs.AttachInvocationCommand.{attach_invocation_command_parts}
use Rattle.protocol_calls.specs.InvocationTarget.{target_parts}
use Rattle.protocol_calls.proofs.attach_invocation_command.AttachInvocationCommandMessageRecord.spell.Goals as goal

pub returns : goal.returns
returns c = chained (attach_invocation_command_parts c.args.self.now) c.args.out.now.items _ (chain_block (target_parts c.args.self.now.target) (plain_number RESULT_COMPLETION_ID.number c.args.self.now.result_completion_id ∷ plain_bytes NAME.number c.args.self.now.name ∷ []) _ _ _ c.in_ok-put_target.ensures (_, c.in_ok-put_u32.ensures, (_, c.in_ok-put_text.ensures, refl)))
