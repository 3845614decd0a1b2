-- Laws of types of commands, headers and streams.
use Rattle.std.specs.Prelude.{◌≡◌, ◌≢◌, ℕ, ◌^◌, ◌<◌, Bool, length, List, [], ◌++◌, map, Some, is_some, Ok}
use Rattle.std.specs.List.{AllByRecursion}
use Rattle.protocol_wire.specs.Items.{items, left}
use Rattle.protocol_wire.specs.Parts.{payload_of}
use Rattle.journal_model.specs.declared.notification.NotificationId.{NotificationId}
use Rattle.journal_model.specs.declared.value.NonEmptyValue.{NonEmptyValue}
use Rattle.journal_model.specs.declared.value.TerminalFailure.{TerminalFailure}
use Rattle.journal_model.specs.declared.call.Header.{Header}
use Rattle.journal_model.specs.Request.{Request}
use Rattle.journal_model.specs.State.{StateMap}
use Rattle.journal_model.specs.declared.invocation.NewInvocation.{NewInvocation}
use Rattle.journal_model.specs.AwaitTree.{AwaitTree}
use Rattle.journal_model.specs.Spelling.{request_payload, input_payload, future_payload, awaiting_on_payload, frame_bytes}
use Rattle.journal_model.specs.Start.{start_payload_of}
use Rattle.protocol_records.specs.SleepCommand.{sleep_command_parts}
use Rattle.protocol_records.specs.OutputCommand.{output_command_parts}
use Rattle.protocol_records.specs.InputCommand.{input_command_parts}
use Rattle.protocol_records.specs.Start.{start_parts}
use Rattle.protocol_records.specs.Future.{future_parts}
use Rattle.protocol_records.specs.AwaitingOn.{awaiting_on_parts}
use Rattle.protocol_types.specs.declared.message_type.MessageType.{MessageType}
use Rattle.protocol_stream.specs.declared.header.MessageHeader.{MessageHeader}
use Rattle.protocol_stream.specs.declared.decoder.RawMessage.{RawMessage}
use Rattle.protocol_stream.specs.declared.command_type.CommandType.{CommandType}
use Rattle.protocol_stream.specs.declared.command_type.CommandType.TheVariants.{SendSignal, CancelInvocation}
use Rattle.protocol_types.specs.MessageType.{type_number, allows_ack, IsWireType}
use Rattle.protocol_stream.specs.CommandType.{message_type_of, command_type_of}
use Rattle.protocol_stream.specs.Header.{message_type, message_length, requested_ack, word_of, header_in}
use Rattle.protocol_stream.specs.Item.{message, item_at}
use Rattle.protocol_stream.specs.Decoder.{DecoderCall, Leads, taken_bytes, answered_items}
use Rattle.protocol_stream.specs.Frame.{spelled, stream, message_of, IsFrame}
use Rattle.protocol_stream.specs.Records.{failure_record, terminal_failure_told, sleep_record, output_record, input_record, start_record, future_record, awaiting_on_record}

-- A command type is read back from the type of its message, but for the cancellation,
abbrev pub CommandTypesReadBack : Type 0
CommandTypesReadBack = (command : CommandType) → command ≢ CancelInvocation → command_type_of (message_type_of command) ≡ Ok command

-- which is read back as the signal that it sends.
abbrev pub CancellationsAreSignals : Type 0
CancellationsAreSignals = command_type_of (message_type_of CancelInvocation) ≡ Ok SendSignal

abbrev pub HeadersReadBack : Type 0
HeadersReadBack =
    (header : MessageHeader) → IsWireType (message_type header) → is_some (requested_ack header) ≡ allows_ack (message_type header) → message_length header < 2 ^ 32
    → header_in (word_of header) ≡ Ok header

abbrev pub FramesStandAlone : Type 0
FramesStandAlone = (one : RawMessage) (rest : List ℕ) → IsFrame one → item_at (spelled one ++ rest) ≡ Some (message one, rest)

abbrev pub StreamsAreRead : Type 0
StreamsAreRead = (messages : List RawMessage) → AllByRecursion IsFrame messages → (items item_at (stream messages) ≡ map message messages) × (left item_at (stream messages) ≡ [])

abbrev pub StreamsCutAnywhere : Type 0
StreamsCutAnywhere = (first second : List ℕ) → items item_at (first ++ second) ≡ items item_at first ++ items item_at (left item_at first ++ second)

-- What a decoder has answered, and the items of what waits, are the items of the bytes that came.
abbrev pub DecodersAnswerItems : Type 0
DecodersAnswerItems = (calls : List DecoderCall) (new : List ℕ) → Leads calls [] new → items item_at (taken_bytes calls) ≡ answered_items calls ++ items item_at new

-- ---- the canonical spelling of the records is the one that the definitions give

abbrev pub SleepsSpelled : Type 0
SleepsSpelled = (time completion : ℕ) (name : List ℕ) → payload_of (sleep_command_parts (sleep_record time completion name)) ≡ request_payload (Request.Sleep time completion name)

abbrev pub OutputsSpelled : Type 0
OutputsSpelled = (value : NonEmptyValue) (name : List ℕ) → payload_of (output_command_parts (output_record value name)) ≡ request_payload (Request.Output value name)

abbrev pub InputsSpelled : Type 0
InputsSpelled = (headers : List Header) (input : List ℕ) → payload_of (input_command_parts (input_record headers input)) ≡ input_payload headers input

abbrev pub StartsSpelled : Type 0
StartsSpelled =
    (new : NewInvocation) (state : StateMap) (known_entries retry_count duration : ℕ)
    → payload_of (start_parts (start_record new state known_entries retry_count duration)) ≡ start_payload_of new state known_entries retry_count duration

abbrev pub FuturesSpelled : Type 0
FuturesSpelled = (tree : AwaitTree NotificationId) → payload_of (future_parts (future_record tree)) ≡ future_payload tree

abbrev pub AwaitingOnSpelled : Type 0
AwaitingOnSpelled = (tree : AwaitTree NotificationId) (executing : Bool) → payload_of (awaiting_on_parts (awaiting_on_record tree executing)) ≡ awaiting_on_payload tree executing

abbrev pub FramesSpelled : Type 0
FramesSpelled = (ty : MessageType) (payload : List ℕ) → type_number ty < 2 ^ 16 → length payload < 2 ^ 32 → spelled (message_of ty payload) ≡ frame_bytes ty payload

abbrev pub TerminalFailuresReadBack : Type 0
TerminalFailuresReadBack = (failure : TerminalFailure) → failure.code < 2 ^ 16 → terminal_failure_told (failure_record failure) ≡ failure
