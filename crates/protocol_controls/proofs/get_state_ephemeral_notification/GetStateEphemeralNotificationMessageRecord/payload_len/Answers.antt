use Rattle.std.proofs.Common.{refl, []}
use Rattle.protocol_wire.proofs.Lengths.{measured, counting_block}
use Rattle.protocol_records.specs.Choice.{choice_parts}
use Rattle.protocol_controls.specs.GetStateEphemeralNotification.{get_state_ephemeral_notification_parts}
use Rattle.protocol_controls.specs.Choices.{ephemeral_choice}
use Rattle.protocol_controls.proofs.get_state_ephemeral_notification.GetStateEphemeralNotificationMessageRecord.payload_len.Goals as goal

pub returns : goal.returns
returns c = measured (get_state_ephemeral_notification_parts c.args.self.now) _ (_, c.len_u32-len.ensures, counting_block (choice_parts ephemeral_choice c.args.self.now.result) ([]) _ _ _ tt c.len_result.ensures refl)
