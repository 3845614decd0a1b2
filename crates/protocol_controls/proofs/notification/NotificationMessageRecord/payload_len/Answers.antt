use Rattle.std.proofs.Common.{refl, []}
use Rattle.protocol_wire.proofs.Lengths.{measured, counting_block}
use Rattle.protocol_controls.specs.Notification.{notification_parts, id_parts, result_parts}
use Rattle.protocol_controls.proofs.notification.NotificationMessageRecord.payload_len.Goals as goal

pub returns : goal.returns
returns c = measured (notification_parts c.args.self.now) _ (counting_block (id_parts c.args.self.now.id) (result_parts c.args.self.now.result) _ _ _ tt c.len_id-len.ensures (counting_block (result_parts c.args.self.now.result) ([]) _ _ _ tt c.len_result.ensures refl))
