-- Which messages each record is the payload of.
use Rattle.std.specs.Prelude.{Option, Some, None}
use Rattle.protocol_table.specs.declared.table.RecordType.{RecordType}
use Rattle.protocol_table.specs.declared.table.RecordType.TheVariants as records
use Rattle.protocol_types.specs.declared.message_type.MessageType.{MessageType}
use Rattle.protocol_types.specs.declared.message_type.MessageType.TheVariants as messages

-- Both records of a suspension have one type. What is a part of other records alone has none, nor has the record that all
-- notifications but an ephemeral one share.
abbrev pub type_of_record : RecordType → Option MessageType
type_of_record records.AttachInvocationCommand = Some messages.AttachInvocationCommand
type_of_record records.AwaitingOn = Some messages.AwaitingOn
type_of_record records.CallCommand = Some messages.CallCommand
type_of_record records.ClearAllStateCommand = Some messages.ClearAllStateCommand
type_of_record records.ClearStateCommand = Some messages.ClearStateCommand
type_of_record records.CompleteAwakeableCommand = Some messages.CompleteAwakeableCommand
type_of_record records.CompletePromiseCommand = Some messages.CompletePromiseCommand
type_of_record records.End = Some messages.End
type_of_record records.Error = Some messages.Error
type_of_record records.Failure = None
type_of_record records.FailureMetadata = None
type_of_record records.Future = None
type_of_record records.GetEagerStateCommand = Some messages.GetEagerStateCommand
type_of_record records.GetEagerStateKeysCommand = Some messages.GetEagerStateKeysCommand
type_of_record records.GetInvocationOutputCommand = Some messages.GetInvocationOutputCommand
type_of_record records.GetLazyStateCommand = Some messages.GetLazyStateCommand
type_of_record records.GetLazyStateKeysCommand = Some messages.GetLazyStateKeysCommand
type_of_record records.GetPromiseCommand = Some messages.GetPromiseCommand
type_of_record records.GetStateEphemeralCommand = Some messages.GetStateEphemeralCommand
type_of_record records.GetStateEphemeralNotification = Some messages.GetStateEphemeralNotification
type_of_record records.Header = None
type_of_record records.IdempotentRequestTarget = None
type_of_record records.InputCommand = Some messages.InputCommand
type_of_record records.Notification = None
type_of_record records.OneWayCallCommand = Some messages.OneWayCallCommand
type_of_record records.OutputCommand = Some messages.OutputCommand
type_of_record records.PeekPromiseCommand = Some messages.PeekPromiseCommand
type_of_record records.ProposeRunCompletion = Some messages.ProposeRunCompletion
type_of_record records.ProposeRunCompletionAck = Some messages.ProposeRunCompletionAck
type_of_record records.RunCommand = Some messages.RunCommand
type_of_record records.SendSignalCommand = Some messages.SendSignalCommand
type_of_record records.SetStateCommand = Some messages.SetStateCommand
type_of_record records.SleepCommand = Some messages.SleepCommand
type_of_record records.Start = Some messages.Start
type_of_record records.StateEntry = None
type_of_record records.StateKeys = None
type_of_record records.Suspension = Some messages.Suspension
type_of_record records.SuspensionV6 = Some messages.Suspension
type_of_record records.Value = None
type_of_record records.Void = None
type_of_record records.WorkflowTarget = None
