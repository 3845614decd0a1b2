-- The frames of the start and of the input are read as these.
use Rattle.std.specs.Prelude.{◌≡◌, ◌<◌, ◌^◌, ℕ, ℤ, pos, length, List, ◌++◌, Some, None, Ok}
use Rattle.protocol_wire.specs.declared.record.TheConstants.{LEVELS}
use Rattle.protocol_table.specs.declared.table.RecordType.TheVariants as records
use Rattle.protocol_types.specs.declared.message_type.MessageType.TheVariants as types
use Rattle.journal_model.specs.declared.call.Header.{Header}
use Rattle.journal_model.specs.declared.invocation.NewInvocation.{NewInvocation}
use Rattle.journal_model.specs.Notification.{Bytes}
use Rattle.journal_model.specs.State.{StateMap, IsOrdered}
use Rattle.journal_model.specs.Spelling.{frame_bytes, input_frame, input_payload}
use Rattle.journal_model.specs.Start.{start_payload_of}
use Rattle.journal_model.specs.Headline.{shown_state}
use Rattle.protocol_records.specs.InputCommand.{InputCommandFits, input_command_of}
use Rattle.protocol_records.specs.Start.{StartFits, start_message_of}
use Rattle.protocol_records.specs.declared.start.StartMessage.{StartMessage}
use Rattle.protocol_stream.specs.Frame.{message_of}
use Rattle.protocol_stream.specs.Item.{message, item_at}
use Rattle.protocol_stream.specs.Records.{input_record, start_record}
use Rattle.protocol_messages.specs.Decodings.{DecodesTo}
use Rattle.vm_commands.specs.RecordedCommands.{command_of}
use Rattle.vm_context.specs.StateKnowledge as following
use Rattle.vm_machine.specs.MessageKinds.{incoming_of}
use Rattle.vm_machine.specs.declared.incoming.Incoming.TheVariants as incoming
use Rattle.vm_start.specs.Starts.{pairs_of}

-- ---- the input

pub record InputFits (headers : List Header) (input : Bytes) : Type 0 where
  pub fits : InputCommandFits LEVELS (input_record headers input)
  pub short : length (input_payload headers input) < 2 ^ 32

-- The input's frame is the message at the front of its bytes, whatever stands behind it; a machine takes that message for a command which
-- no call makes, and it is read as the input again.
pub record InputIsRead (headers : List Header) (input : Bytes) (rest : List ℕ) : Type 0 where
  pub front : item_at (input_frame headers input ++ rest) ≡ Some (message (message_of types.InputCommand (input_payload headers input)), rest)
  pub kind : incoming_of types.InputCommand ≡ incoming.Command
  pub command : command_of (message_of types.InputCommand (input_payload headers input)) ≡ None
  pub decoded : (index : ℤ) → DecodesTo records.InputCommand input_command_of index (message_of types.InputCommand (input_payload headers input)) (Ok (input_record headers input))

abbrev pub InputsReadBack : Type 0
InputsReadBack = (headers : List Header) (input : Bytes) (rest : List ℕ) → InputFits headers input → InputIsRead headers input rest

-- ---- the start

pub record StartsFit (start : StartMessage) (payload : Bytes) : Type 0 where
  pub fits : StartFits LEVELS start
  pub short : length payload < 2 ^ 32

-- The start's frame is the message at the front of its bytes, and is read as the start again.
pub record StartIsRead (start : StartMessage) (payload : Bytes) (rest : List ℕ) : Type 0 where
  pub front : item_at (frame_bytes types.Start payload ++ rest) ≡ Some (message (message_of types.Start payload), rest)
  pub kind : incoming_of types.Start ≡ incoming.Start
  pub decoded : DecodesTo records.Start start_message_of (pos 0) (message_of types.Start payload) (Ok start)

-- what it shows of the state is what the run of its invocation is shown
abbrev pub StartShowsState : NewInvocation → StateMap → StartMessage → Type 0
StartShowsState new state start = following.start_state_of start.partial_state (pairs_of start.state_map) ≡ shown_state new.state state

abbrev pub StartsReadBack : Type 0
StartsReadBack = (new : NewInvocation) (state : StateMap) (known_entries retry_count duration : ℕ) (rest : List ℕ) → IsOrdered state
    → StartsFit (start_record new state known_entries retry_count duration) (start_payload_of new state known_entries retry_count duration)
    → StartIsRead (start_record new state known_entries retry_count duration) (start_payload_of new state known_entries retry_count duration) rest
    × StartShowsState new state (start_record new state known_entries retry_count duration)
