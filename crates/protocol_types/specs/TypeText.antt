-- How the types of messages are printed.
use Rattle.std.specs.Prelude.{ℕ, List, [], ◌++◌, codes, decimal}
use Rattle.protocol_types.specs.declared.message_type.MessageType.{MessageType}
use Rattle.protocol_types.specs.declared.message_type.MessageType.TheVariants.{Start, Suspension, Error, End, AwaitingOn, ProposeRunCompletion, ProposeRunCompletionAck, GetStateEphemeralCommand, GetStateEphemeralNotification, InputCommand, OutputCommand, GetLazyStateCommand, SetStateCommand, ClearStateCommand, ClearAllStateCommand, GetLazyStateKeysCommand, GetEagerStateCommand, GetEagerStateKeysCommand, GetPromiseCommand, PeekPromiseCommand, CompletePromiseCommand, SleepCommand, CallCommand, OneWayCallCommand, SendSignalCommand, RunCommand, AttachInvocationCommand, GetInvocationOutputCommand, CompleteAwakeableCommand, GetLazyStateCompletionNotification, GetLazyStateKeysCompletionNotification, GetPromiseCompletionNotification, PeekPromiseCompletionNotification, CompletePromiseCompletionNotification, SleepCompletionNotification, CallCompletionNotification, CallInvocationIdCompletionNotification, RunCompletionNotification, AttachInvocationCompletionNotification, GetInvocationOutputCompletionNotification, SignalNotification, CustomEntry}

-- the name of a type
abbrev pub type_name : MessageType → List ℕ
type_name Start = codes "Start"
type_name Suspension = codes "Suspension"
type_name Error = codes "Error"
type_name End = codes "End"
type_name AwaitingOn = codes "AwaitingOn"
type_name ProposeRunCompletion = codes "ProposeRunCompletion"
type_name ProposeRunCompletionAck = codes "ProposeRunCompletionAck"
type_name GetStateEphemeralCommand = codes "GetStateEphemeralCommand"
type_name GetStateEphemeralNotification = codes "GetStateEphemeralNotification"
type_name InputCommand = codes "InputCommand"
type_name OutputCommand = codes "OutputCommand"
type_name GetLazyStateCommand = codes "GetLazyStateCommand"
type_name SetStateCommand = codes "SetStateCommand"
type_name ClearStateCommand = codes "ClearStateCommand"
type_name ClearAllStateCommand = codes "ClearAllStateCommand"
type_name GetLazyStateKeysCommand = codes "GetLazyStateKeysCommand"
type_name GetEagerStateCommand = codes "GetEagerStateCommand"
type_name GetEagerStateKeysCommand = codes "GetEagerStateKeysCommand"
type_name GetPromiseCommand = codes "GetPromiseCommand"
type_name PeekPromiseCommand = codes "PeekPromiseCommand"
type_name CompletePromiseCommand = codes "CompletePromiseCommand"
type_name SleepCommand = codes "SleepCommand"
type_name CallCommand = codes "CallCommand"
type_name OneWayCallCommand = codes "OneWayCallCommand"
type_name SendSignalCommand = codes "SendSignalCommand"
type_name RunCommand = codes "RunCommand"
type_name AttachInvocationCommand = codes "AttachInvocationCommand"
type_name GetInvocationOutputCommand = codes "GetInvocationOutputCommand"
type_name CompleteAwakeableCommand = codes "CompleteAwakeableCommand"
type_name GetLazyStateCompletionNotification = codes "GetLazyStateCompletionNotification"
type_name GetLazyStateKeysCompletionNotification = codes "GetLazyStateKeysCompletionNotification"
type_name GetPromiseCompletionNotification = codes "GetPromiseCompletionNotification"
type_name PeekPromiseCompletionNotification = codes "PeekPromiseCompletionNotification"
type_name CompletePromiseCompletionNotification = codes "CompletePromiseCompletionNotification"
type_name SleepCompletionNotification = codes "SleepCompletionNotification"
type_name CallCompletionNotification = codes "CallCompletionNotification"
type_name CallInvocationIdCompletionNotification = codes "CallInvocationIdCompletionNotification"
type_name RunCompletionNotification = codes "RunCompletionNotification"
type_name AttachInvocationCompletionNotification = codes "AttachInvocationCompletionNotification"
type_name GetInvocationOutputCompletionNotification = codes "GetInvocationOutputCompletionNotification"
type_name SignalNotification = codes "SignalNotification"
type_name (CustomEntry number) = codes "CustomEntry"

-- a custom entry is told with its number
abbrev pub number_text : MessageType → List ℕ
number_text (CustomEntry number) = codes "(" ++ decimal number ++ codes ")"
number_text _ = []

abbrev pub type_text : MessageType → List ℕ
type_text ty = type_name ty ++ number_text ty
