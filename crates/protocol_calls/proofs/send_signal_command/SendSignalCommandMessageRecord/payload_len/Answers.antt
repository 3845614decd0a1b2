use Rattle.std.proofs.Common.{refl, [], ◌∷◌, ◌++◌}
use Rattle.protocol_wire.specs.Parts.{plain_bytes}
use Rattle.protocol_wire.proofs.Lengths.{measured, counting_block}
use Rattle.protocol_table.specs.declared.table.send_signal_command.TheConstants.{ENTRY_NAME}
use Rattle.protocol_calls.specs.SendSignalCommand.{send_signal_command_parts, signal_id_parts, result_parts}
use Rattle.protocol_calls.proofs.send_signal_command.SendSignalCommandMessageRecord.payload_len.Goals as goal

pub returns : goal.returns
returns c = measured (send_signal_command_parts c.args.self.now) _ (_, c.len_text-len.ensures, counting_block (signal_id_parts c.args.self.now.signal_id) ((result_parts c.args.self.now.result ++ (plain_bytes ENTRY_NAME.number c.args.self.now.entry_name ∷ []))) _ _ _ tt c.len_signal_id-len.ensures (counting_block (result_parts c.args.self.now.result) (plain_bytes ENTRY_NAME.number c.args.self.now.entry_name ∷ []) _ _ _ tt c.len_result-len.ensures (_, c.len_text.ensures, refl)))
