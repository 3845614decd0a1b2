-- What the messages of each type are for, and which record each type's payload is.
use Rattle.std.specs.Prelude.{Option, Some, None}
use Rattle.protocol_table.specs.declared.table.RecordType.{RecordType}
use Rattle.protocol_table.specs.declared.table.RecordType.TheVariants as records
use Rattle.protocol_types.specs.declared.message_type.MessageType.{MessageType}
use Rattle.protocol_types.specs.declared.message_type.MessageType.TheVariants as types
use Rattle.store_frames.specs.declared.kind.FrameKind.{FrameKind}
use Rattle.store_frames.specs.declared.kind.FrameKind.TheVariants as kinds

abbrev pub frame_kind : MessageType → FrameKind
frame_kind types.OutputCommand = kinds.Command
frame_kind types.GetLazyStateCommand = kinds.Command
frame_kind types.GetLazyStateKeysCommand = kinds.Command
frame_kind types.SetStateCommand = kinds.Command
frame_kind types.ClearStateCommand = kinds.Command
frame_kind types.ClearAllStateCommand = kinds.Command
frame_kind types.GetEagerStateCommand = kinds.Command
frame_kind types.GetEagerStateKeysCommand = kinds.Command
frame_kind types.GetPromiseCommand = kinds.Command
frame_kind types.PeekPromiseCommand = kinds.Command
frame_kind types.CompletePromiseCommand = kinds.Command
frame_kind types.SleepCommand = kinds.Command
frame_kind types.CallCommand = kinds.Command
frame_kind types.OneWayCallCommand = kinds.Command
frame_kind types.SendSignalCommand = kinds.Command
frame_kind types.RunCommand = kinds.Command
frame_kind types.AttachInvocationCommand = kinds.Command
frame_kind types.GetInvocationOutputCommand = kinds.Command
frame_kind types.CompleteAwakeableCommand = kinds.Command
frame_kind types.AwaitingOn = kinds.AwaitingOn
frame_kind types.Suspension = kinds.Suspension
frame_kind types.Error = kinds.Error
frame_kind types.End = kinds.End
frame_kind types.ProposeRunCompletion = kinds.RunOutcome
frame_kind _ = kinds.Other

-- A custom entry's payload is any bytes. (A suspension's record is this one from version 7 on.)
abbrev pub record_of : MessageType → Option RecordType
record_of types.Start = Some records.Start
record_of types.Suspension = Some records.Suspension
record_of types.Error = Some records.Error
record_of types.End = Some records.End
record_of types.AwaitingOn = Some records.AwaitingOn
record_of types.ProposeRunCompletion = Some records.ProposeRunCompletion
record_of types.ProposeRunCompletionAck = Some records.ProposeRunCompletionAck
record_of types.GetStateEphemeralCommand = Some records.GetStateEphemeralCommand
record_of types.GetStateEphemeralNotification = Some records.GetStateEphemeralNotification
record_of types.InputCommand = Some records.InputCommand
record_of types.OutputCommand = Some records.OutputCommand
record_of types.GetLazyStateCommand = Some records.GetLazyStateCommand
record_of types.SetStateCommand = Some records.SetStateCommand
record_of types.ClearStateCommand = Some records.ClearStateCommand
record_of types.ClearAllStateCommand = Some records.ClearAllStateCommand
record_of types.GetLazyStateKeysCommand = Some records.GetLazyStateKeysCommand
record_of types.GetEagerStateCommand = Some records.GetEagerStateCommand
record_of types.GetEagerStateKeysCommand = Some records.GetEagerStateKeysCommand
record_of types.GetPromiseCommand = Some records.GetPromiseCommand
record_of types.PeekPromiseCommand = Some records.PeekPromiseCommand
record_of types.CompletePromiseCommand = Some records.CompletePromiseCommand
record_of types.SleepCommand = Some records.SleepCommand
record_of types.CallCommand = Some records.CallCommand
record_of types.OneWayCallCommand = Some records.OneWayCallCommand
record_of types.SendSignalCommand = Some records.SendSignalCommand
record_of types.RunCommand = Some records.RunCommand
record_of types.AttachInvocationCommand = Some records.AttachInvocationCommand
record_of types.GetInvocationOutputCommand = Some records.GetInvocationOutputCommand
record_of types.CompleteAwakeableCommand = Some records.CompleteAwakeableCommand
record_of (types.CustomEntry number) = None
record_of _ = Some records.Notification
