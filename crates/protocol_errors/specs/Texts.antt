-- What errors print.
use Rattle.std.specs.Prelude.{ℕ, ℤ, Bool, false, ◌==◌, bytes_eq, List, [], ◌++◌, find, Option, Some, None, option_map, codes, decimal}
use Rattle.std.specs.Fmt.{signed_decimal}
use Rattle.std.specs.List.{flat_map}
use Rattle.std.specs.Str.{valid_up_to, error_len}
use Rattle.protocol_types.specs.TypeText.{type_text}
use Rattle.protocol_types.specs.Version.{version_content_type}
use Rattle.protocol_types.specs.declared.message_type.MessageType.{MessageType}
use Rattle.protocol_types.specs.declared.version.Version.{Version}
use Rattle.protocol_errors.specs.declared.error.Error.{Error}
use Rattle.protocol_errors.specs.declared.metadata.CommandMetadata.{CommandMetadata}
use Rattle.protocol_errors.specs.declared.metadata.NotificationMetadata.{NotificationMetadata}
use Rattle.protocol_errors.specs.declared.metadata.NotificationMetadata.TheVariants as told
use Rattle.protocol_errors.specs.declared.mismatch.CommandTypeMismatchError.{CommandTypeMismatchError}
use Rattle.protocol_errors.specs.declared.typed.BadEagerStateKeyError.{BadEagerStateKeyError}
use Rattle.protocol_errors.specs.declared.uncompleted.AwaitedId.{AwaitedId}
use Rattle.protocol_errors.specs.declared.uncompleted.AwaitedId.TheVariants as awaited
use Rattle.protocol_errors.specs.declared.uncompleted.UncompletedDoProgressDuringReplay.{UncompletedDoProgressDuringReplay}

-- how each text of a mismatch begins
unfoldable pub mismatch_text : List ℕ
mismatch_text = codes "Found a mismatch between the code paths taken during the previous execution and the paths taken during this execution.\nThis typically happens when some parts of the code are non-deterministic."

abbrev pub awaited_text : AwaitedId → List ℕ
awaited_text (awaited.CompletionId number) = codes "completion id " ++ decimal number
awaited_text (awaited.SignalId number) = codes "signal [" ++ decimal number ++ codes "]"
awaited_text (awaited.SignalName name) = codes "signal '" ++ name ++ codes "'"

-- a call behind the end, where nobody hands in other words
abbrev pub closed_text : List ℕ → List ℕ
closed_text event = codes "State machine was closed when invoking '" ++ event ++ codes "'"

-- the name of a command, or its place where it has none
abbrev pub label_text : Option (List ℕ) → ℕ → List ℕ
label_text (Some name) index = name
label_text None index = decimal index

abbrev pub command_text : CommandMetadata → List ℕ
command_text command = type_text command.ty ++ codes " [" ++ label_text command.name command.index ++ codes "]"

abbrev pub notification_text : NotificationMetadata → List ℕ
notification_text (told.RelatedToCommand command) = command_text command
notification_text (told.Awakeable id) = codes "Awakeable " ++ id
notification_text told.Cancellation = codes "Cancellation"

-- the line of the command that an error is about
abbrev pub related_text : Option CommandMetadata → List ℕ
related_text None = []
related_text (Some command) = codes "\nRelated command: " ++ command_text command

abbrev pub error_text : Error → List ℕ
error_text error = codes "(" ++ decimal error.code.0 ++ codes ") " ++ error.message ++ related_text error.related_command

-- what was recorded at this place of the journal
unfoldable pub recorded_text : MessageType → ℤ → List ℕ
recorded_text ty index = codes "\n - The previous execution ran and recorded the following: '" ++ type_text ty ++ codes "' (index '" ++ signed_decimal index ++ codes "')"

-- what the handler asks for
unfoldable pub attempted_text : MessageType → List ℕ
attempted_text ty = codes "\n - The current execution attempts to perform the following: '" ++ type_text ty ++ codes "'"

abbrev pub type_mismatch_text : CommandTypeMismatchError → List ℕ
type_mismatch_text error = mismatch_text ++ recorded_text error.actual error.command_index ++ attempted_text error.expected

-- ---- an await that the journal does not answer

-- how the text goes on behind the mismatch's
unfoldable pub unreplayed_text : List ℕ
unreplayed_text = codes "\n'await' could not be replayed. This usually means the code was mutated adding an 'await' without registering a new service revision.\nNotifications awaited on this await point:"

-- whether two ids are the same
unfoldable pub same_awaited : AwaitedId → AwaitedId → Bool
same_awaited (awaited.CompletionId one) (awaited.CompletionId two) = one == two
same_awaited (awaited.SignalId one) (awaited.SignalId two) = one == two
same_awaited (awaited.SignalName one) (awaited.SignalName two) = bytes_eq one two
same_awaited _ _ = false

-- what is known of an id: what stands first for it
abbrev pub metadata_of : AwaitedId → List (AwaitedId × NotificationMetadata) → Option NotificationMetadata
metadata_of id known = option_map (λ pair. pair.1) (find (λ pair. same_awaited pair.0 id) known)

-- a line with that, or with the id where nothing is known
abbrev pub line_text : AwaitedId → Option NotificationMetadata → List ℕ
line_text id None = codes "\n - " ++ awaited_text id
line_text id (Some metadata) = codes "\n - " ++ notification_text metadata

abbrev pub awaited_line : List (AwaitedId × NotificationMetadata) → AwaitedId → List ℕ
awaited_line known id = line_text id (metadata_of id known)

-- the mismatch, the await, and a line for each id, in order
abbrev pub uncompleted_text : UncompletedDoProgressDuringReplay → List ℕ
uncompleted_text error = mismatch_text ++ unreplayed_text ++ flat_map (awaited_line error.known.items) error.awaited.items

-- ---- errors with types of their own

-- nothing recorded is left for a command of this type
unfoldable pub unavailable_text : MessageType → List ℕ
unavailable_text expected =
    codes "The execution replay ended unexpectedly. Expecting to read '" ++ type_text expected ++ codes "' from the recorded journal, but the buffered messages were already drained."

-- a call in a state that does not allow it
unfoldable pub unexpected_state_text : List ℕ → List ℕ
unexpected_state_text state = codes "Unexpected state '" ++ state ++ codes "'"

unfoldable pub invoking_text : List ℕ → List ℕ
invoking_text event = codes " when invoking '" ++ event ++ codes "'"

-- the key of a state is no UTF-8: so many bytes are none, where more follow
unfoldable pub bad_key_text : Option ℕ → List ℕ
bad_key_text (Some len) = codes "Cannot convert an eager state key into UTF-8 String: invalid utf-8 sequence of " ++ decimal len ++ codes " bytes"
bad_key_text None = codes "Cannot convert an eager state key into UTF-8 String: incomplete utf-8 byte sequence"

-- from this place on
unfoldable pub from_index_text : ℕ → List ℕ
from_index_text at = codes " from index " ++ decimal at

abbrev pub bad_state_key_text : BadEagerStateKeyError → List ℕ
bad_state_key_text error = bad_key_text (error_len error.0.error) ++ from_index_text (valid_up_to error.0.error)

-- a feature that came with a later version
unfoldable pub feature_text : List ℕ → (current minimum : Version) → List ℕ
feature_text feature current minimum =
    codes "Feature '" ++ feature ++ codes "' is not supported by the negotiated protocol version '" ++ version_content_type current ++ codes "', the minimum required version is '" ++ version_content_type minimum ++ codes "'"

-- an acknowledgement of no run
abbrev pub bad_ack_text : ℕ → List ℕ
bad_ack_text id = codes "Got an acknowledgement for a run proposal that was not sent, completion id " ++ decimal id

-- an ephemeral read that no one can answer
abbrev pub unanswered_read_text : (key : List ℕ) → List ℕ
unanswered_read_text key = codes "Cannot get the state of key '" ++ key ++ codes "' ephemerally, the input is closed"

-- a moment past the milliseconds that 64 bits hold
abbrev pub out_of_bounds_text : List ℕ → List ℕ
out_of_bounds_text event = codes "Duration for '" ++ event ++ codes "' is out of bounds: out of range integral type conversion attempted"
