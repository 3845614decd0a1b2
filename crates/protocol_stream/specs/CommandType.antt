-- The types of commands, their words, and the types of messages that they stand for.
use Rattle.std.specs.Prelude.{ℕ, List, codes, Result, Ok, Err}
use Rattle.protocol_types.specs.declared.message_type.MessageType.{MessageType}
use Rattle.protocol_types.specs.declared.message_type.MessageType.TheVariants as messages
use Rattle.protocol_stream.specs.declared.command_type.CommandType.{CommandType}
use Rattle.protocol_stream.specs.declared.command_type.CommandType.TheVariants as commands

-- what a command is called where it is printed
abbrev pub command_words : CommandType → List ℕ
command_words commands.Input = codes "handler input"
command_words commands.Output = codes "handler return"
command_words commands.GetState = codes "get state"
command_words commands.GetStateKeys = codes "get state keys"
command_words commands.SetState = codes "set state"
command_words commands.ClearState = codes "clear state"
command_words commands.ClearAllState = codes "clear all state"
command_words commands.GetPromise = codes "get promise"
command_words commands.PeekPromise = codes "peek promise"
command_words commands.CompletePromise = codes "complete promise"
command_words commands.Sleep = codes "sleep"
command_words commands.Call = codes "call"
command_words commands.OneWayCall = codes "one way call/send"
command_words commands.SendSignal = codes "send signal"
command_words commands.Run = codes "run"
command_words commands.AttachInvocation = codes "attach invocation"
command_words commands.GetInvocationOutput = codes "get invocation output"
command_words commands.CompleteAwakeable = codes "complete awakeable"
command_words commands.CancelInvocation = codes "cancel invocation"

-- the command of its name; a read is the lazy one, and a cancellation sends a signal
abbrev pub message_type_of : CommandType → MessageType
message_type_of commands.Input = messages.InputCommand
message_type_of commands.Output = messages.OutputCommand
message_type_of commands.GetState = messages.GetLazyStateCommand
message_type_of commands.GetStateKeys = messages.GetLazyStateKeysCommand
message_type_of commands.SetState = messages.SetStateCommand
message_type_of commands.ClearState = messages.ClearStateCommand
message_type_of commands.ClearAllState = messages.ClearAllStateCommand
message_type_of commands.GetPromise = messages.GetPromiseCommand
message_type_of commands.PeekPromise = messages.PeekPromiseCommand
message_type_of commands.CompletePromise = messages.CompletePromiseCommand
message_type_of commands.Sleep = messages.SleepCommand
message_type_of commands.Call = messages.CallCommand
message_type_of commands.OneWayCall = messages.OneWayCallCommand
message_type_of commands.SendSignal = messages.SendSignalCommand
message_type_of commands.Run = messages.RunCommand
message_type_of commands.AttachInvocation = messages.AttachInvocationCommand
message_type_of commands.GetInvocationOutput = messages.GetInvocationOutputCommand
message_type_of commands.CompleteAwakeable = messages.CompleteAwakeableCommand
message_type_of commands.CancelInvocation = messages.SendSignalCommand

-- both ways of reading are one command; what is no command with a name is handed back
abbrev pub command_type_of : MessageType → Result CommandType MessageType
command_type_of messages.InputCommand = Ok commands.Input
command_type_of messages.OutputCommand = Ok commands.Output
command_type_of messages.GetLazyStateCommand = Ok commands.GetState
command_type_of messages.GetEagerStateCommand = Ok commands.GetState
command_type_of messages.GetLazyStateKeysCommand = Ok commands.GetStateKeys
command_type_of messages.GetEagerStateKeysCommand = Ok commands.GetStateKeys
command_type_of messages.SetStateCommand = Ok commands.SetState
command_type_of messages.ClearStateCommand = Ok commands.ClearState
command_type_of messages.ClearAllStateCommand = Ok commands.ClearAllState
command_type_of messages.GetPromiseCommand = Ok commands.GetPromise
command_type_of messages.PeekPromiseCommand = Ok commands.PeekPromise
command_type_of messages.CompletePromiseCommand = Ok commands.CompletePromise
command_type_of messages.SleepCommand = Ok commands.Sleep
command_type_of messages.CallCommand = Ok commands.Call
command_type_of messages.OneWayCallCommand = Ok commands.OneWayCall
command_type_of messages.SendSignalCommand = Ok commands.SendSignal
command_type_of messages.RunCommand = Ok commands.Run
command_type_of messages.AttachInvocationCommand = Ok commands.AttachInvocation
command_type_of messages.GetInvocationOutputCommand = Ok commands.GetInvocationOutput
command_type_of messages.CompleteAwakeableCommand = Ok commands.CompleteAwakeable
command_type_of other = Err other
