-- What is read of a recorded request that asks something of another invocation.
use Rattle.std.specs.Prelude.{◌≡◌, ◌<◌, ◌^◌, Bool, true, false, length, Option, Some, option_and_then, option_map}
use Rattle.protocol_types.specs.declared.message_type.MessageType.{MessageType}
use Rattle.protocol_types.specs.declared.message_type.MessageType.TheVariants as types
use Rattle.protocol_wire.specs.declared.record.TheConstants.{LEVELS}
use Rattle.protocol_calls.specs.declared.send_signal_command.SendSignalCommandMessage.{SendSignalCommandMessage}
use Rattle.protocol_calls.specs.declared.complete_awakeable_command.CompleteAwakeableCommandMessage.{CompleteAwakeableCommandMessage}
use Rattle.protocol_calls.specs.SendSignalCommand.{SendSignalCommandFits}
use Rattle.protocol_calls.specs.CompleteAwakeableCommand.{CompleteAwakeableCommandFits}
use Rattle.protocol_laws.specs.Requests.{request_of_complete_awakeable, request_of_send_signal}
use Rattle.journal_model.specs.Request.{Request}
use Rattle.journal_model.specs.Spelling.{request_payload}
use Rattle.delivery_laws.specs.Message.{Message, Tells, Completes, message_of}
use Rattle.store_deliveries.specs.declared.recorded.RecordedMessage.{RecordedMessage}
use Rattle.store_deliveries.specs.declared.recorded.RecordedMessage.TheVariants as recorded

-- the message that the code holds
abbrev pub message_told : RecordedMessage → Message
message_told (recorded.Tells target key result) = Tells target key result
message_told (recorded.Completes text result) = Completes text result

abbrev pub asked_by : Option Request → Option Message
asked_by request = option_and_then message_of request

-- this is what the request asks for, and nothing where it asks for nothing
abbrev pub IsAsked : Option Request → Option RecordedMessage → Type 0
IsAsked request found = option_map message_told found ≡ asked_by request

-- ---- types

abbrev pub is_signal_type : MessageType → Bool
is_signal_type types.SendSignalCommand = true
is_signal_type _ = false

abbrev pub is_completion_type : MessageType → Bool
is_completion_type types.CompleteAwakeableCommand = true
is_completion_type _ = false

-- ---- a request that came in a message can be read again

pub record SignalRead (request : Request) : Type 0 where
  pub one : SendSignalCommandMessage
  pub fits : SendSignalCommandFits LEVELS one
  pub is : request_of_send_signal one ≡ Some request

pub record CompletionRead (request : Request) : Type 0 where
  pub one : CompleteAwakeableCommandMessage
  pub fits : CompleteAwakeableCommandFits LEVELS one
  pub is : request_of_complete_awakeable one ≡ Some request

abbrev pub CanBeRead : Request → Type 0
CanBeRead (Request.SendSignal target key value name) = SignalRead (Request.SendSignal target key value name)
CanBeRead (Request.CompleteAwakeable id value name) = CompletionRead (Request.CompleteAwakeable id value name)
CanBeRead _ = Unit {0}

pub record IsReadable (request : Request) : Type 0 where
  pub read : CanBeRead request
  pub short : length (request_payload request) < 2 ^ 64
