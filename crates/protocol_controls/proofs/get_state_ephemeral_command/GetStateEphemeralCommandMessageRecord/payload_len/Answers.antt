use Rattle.std.proofs.Common.{refl}
use Rattle.protocol_wire.proofs.Lengths.{measured}
use Rattle.protocol_controls.specs.GetStateEphemeralCommand.{get_state_ephemeral_command_parts}
use Rattle.protocol_controls.proofs.get_state_ephemeral_command.GetStateEphemeralCommandMessageRecord.payload_len.Goals as goal

pub returns : goal.returns
returns c = measured (get_state_ephemeral_command_parts c.args.self.now) _ (_, c.len_u32-len.ensures, (_, c.len_bytes.ensures, refl))
