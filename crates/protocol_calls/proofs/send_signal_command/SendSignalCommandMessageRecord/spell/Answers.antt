use Rattle.std.proofs.Common.{refl, [], ◌∷◌, ◌++◌}
use Rattle.protocol_wire.specs.Parts.{plain_bytes}
use Rattle.protocol_wire.proofs.Puts.{chained, chain_block}
use Rattle.protocol_table.specs.declared.table.send_signal_command.TheConstants.{ENTRY_NAME}
use Rattle.protocol_calls.specs.SendSignalCommand.{send_signal_command_parts, signal_id_parts, result_parts}
use Rattle.protocol_calls.proofs.send_signal_command.SendSignalCommandMessageRecord.spell.Goals as goal

pub returns : goal.returns
returns c = chained (send_signal_command_parts c.args.self.now) c.args.out.now.items _ (_, c.in_ok-put_text.ensures, chain_block (signal_id_parts c.args.self.now.signal_id) ((result_parts c.args.self.now.result ++ (plain_bytes ENTRY_NAME.number c.args.self.now.entry_name ∷ []))) _ _ _ c.in_ok-put_signal_id.ensures (chain_block (result_parts c.args.self.now.result) (plain_bytes ENTRY_NAME.number c.args.self.now.entry_name ∷ []) _ _ _ c.in_ok-put_result.ensures (_, c.in_ok-put_text-2.ensures, refl)))
