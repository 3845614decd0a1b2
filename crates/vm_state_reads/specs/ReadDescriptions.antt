-- How errors tell a read: by which type and which name.
use Rattle.std.specs.Prelude.{◌==◌, Bool, true, false, if◌then◌else◌, List, [], ◌∷◌}
use Rattle.journal_model.specs.Notification.{Text}
use Rattle.protocol_types.specs.declared.message_type.MessageType.{MessageType}
use Rattle.protocol_types.specs.MessageType.{type_number}
use Rattle.protocol_stream.specs.declared.decoder.RawMessage.{RawMessage}
use Rattle.protocol_stream.specs.Header.{message_type}
use Rattle.vm_calls.specs.declared.active.Active.{Active}
use Rattle.vm_calls.specs.Active.{IsAtCommand}

-- whether the next recorded command is of this type
abbrev pub begins_with : MessageType → List RawMessage → Bool
begins_with ty [] = false
begins_with ty (message ∷ messages) = type_number (message_type message.header) == type_number ty

-- in replay: as one whose answer was known, unless the record is of the other type
abbrev pub type_in_replay : (eager lazy : MessageType) → List RawMessage → MessageType
type_in_replay eager lazy messages = if begins_with lazy messages then lazy else eager

-- by whether its answer is known
abbrev pub type_behind : (eager lazy : MessageType) → (known : Bool) → MessageType
type_behind eager lazy known = if known then eager else lazy

-- In replay a read is told without its name, by the type of its record; behind the journal by its name, and by what is known.
abbrev pub IsAtRead : (eager lazy : MessageType) → (replaying known : Bool) → Text → (old new : Active) → Type 0
IsAtRead eager lazy true known name old new = IsAtCommand (type_in_replay eager lazy old.commands.items) [] old.journal new.journal
IsAtRead eager lazy false known name old new = IsAtCommand (type_behind eager lazy known) name old.journal new.journal
