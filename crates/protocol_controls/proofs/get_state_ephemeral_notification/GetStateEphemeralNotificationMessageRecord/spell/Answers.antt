use Rattle.std.proofs.Common.{refl, []}
use Rattle.protocol_wire.proofs.Puts.{chained, chain_block}
use Rattle.protocol_records.specs.Choice.{choice_parts}
use Rattle.protocol_controls.specs.GetStateEphemeralNotification.{get_state_ephemeral_notification_parts}
use Rattle.protocol_controls.specs.Choices.{ephemeral_choice}
use Rattle.protocol_controls.proofs.get_state_ephemeral_notification.GetStateEphemeralNotificationMessageRecord.spell.Goals as goal

pub returns : goal.returns
returns c = chained (get_state_ephemeral_notification_parts c.args.self.now) c.args.out.now.items _ (_, c.in_ok-put_u32.ensures, chain_block (choice_parts ephemeral_choice c.args.self.now.result) ([]) _ _ _ c.in_ok-put_result.ensures refl)
