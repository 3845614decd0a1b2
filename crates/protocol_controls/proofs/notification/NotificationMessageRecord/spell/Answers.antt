use Rattle.std.proofs.Common.{refl, []}
use Rattle.protocol_wire.proofs.Puts.{chained, chain_block}
use Rattle.protocol_controls.specs.Notification.{notification_parts, id_parts, result_parts}
use Rattle.protocol_controls.proofs.notification.NotificationMessageRecord.spell.Goals as goal

pub returns : goal.returns
returns c = chained (notification_parts c.args.self.now) c.args.out.now.items _ (chain_block (id_parts c.args.self.now.id) (result_parts c.args.self.now.result) _ _ _ c.in_ok-put_id.ensures (chain_block (result_parts c.args.self.now.result) ([]) _ _ _ c.in_ok-put_result.ensures refl))
