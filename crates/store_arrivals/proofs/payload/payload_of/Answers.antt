use Rattle.std.proofs.Common.{ap, ◌∙◌}
use Rattle.protocol_wire.specs.Parts.{payload_of}
use Rattle.protocol_controls.specs.declared.notification.NotificationMessage.{NotificationMessage}
use Rattle.protocol_controls.specs.Notification.{notification_parts}
use Rattle.protocol_laws.proofs.Notifications.{notifications_spelled}
use Rattle.store_arrivals.proofs.payload.payload_of.Goals as goal

pub returns : goal.returns
returns c =
    c.in_ok-payload.ensures ∙ ap (λ (m : NotificationMessage). payload_of (notification_parts m)) c.in_ok-message.ensures
    ∙ notifications_spelled c.args.arrival
