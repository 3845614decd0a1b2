-- What a message that comes is to a machine, by its type.
use Rattle.std.specs.Prelude.{◌==◌, if◌then◌else◌}
use Rattle.protocol_types.specs.MessageType.{type_number, is_command, is_notification}
use Rattle.protocol_types.specs.declared.message_type.MessageType.{MessageType}
use Rattle.protocol_types.specs.declared.message_type.MessageType.TheVariants as messages
use Rattle.vm_machine.specs.declared.incoming.Incoming.{Incoming}
use Rattle.vm_machine.specs.declared.incoming.Incoming.TheVariants as incoming

abbrev pub control_of : MessageType → Incoming
control_of ty =
    if type_number ty == type_number messages.Start then incoming.Start
    else (if type_number ty == type_number messages.ProposeRunCompletionAck then incoming.RunAcknowledgement
    else (if type_number ty == type_number messages.GetStateEphemeralNotification then incoming.EphemeralAnswer else incoming.Other))

abbrev pub incoming_of : MessageType → Incoming
incoming_of ty = if is_command ty then incoming.Command else (if is_notification ty then incoming.Notification else control_of ty)
