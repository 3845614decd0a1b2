-- What an error tells of what is recorded next, where it is not the read that a call makes.
use Rattle.std.specs.Prelude.{◌≡◌, ◌≢◌, ℕ, ℤ, List, Option, None, Result, Ok, Err}
use Rattle.protocol_types.specs.declared.message_type.MessageType.{MessageType}
use Rattle.protocol_stream.specs.declared.decoder.RawMessage.{RawMessage}
use Rattle.vm_commands.specs.declared.state_read.StateReadError.{StateReadError}
use Rattle.vm_commands.specs.declared.state_read.StateReadError.TheVariants as errors
use Rattle.vm_calls.specs.declared.active.Active.{Active}
use Rattle.vm_calls.specs.MismatchedCommands.{command_place, IsRecordedNext, IsOtherNext, TellsUnmatched}
use Rattle.vm_state_reads.specs.declared.read_error.ReadError.{ReadError}
use Rattle.vm_state_reads.specs.declared.read_error.ReadError.TheVariants.{Replay}

-- Why what is recorded next is not a read of these two types, at this place: as of a command of the type that it is of; or it is of
-- neither; or one whose answer was known, and is not there.
abbrev pub TellsUnread : {L E : Type 0} → (eager lazy : MessageType) → (place : ℤ) → List RawMessage → StateReadError L E → Type 0
TellsUnread eager lazy place queue (errors.Lazy error) = TellsUnmatched lazy place queue error
TellsUnread eager lazy place queue (errors.Eager error) = TellsUnmatched eager place queue error
TellsUnread eager lazy place queue (errors.OtherType error) = IsOtherNext lazy error.actual queue × (error.actual ≢ eager) × (error.expected ≡ lazy) × (error.command_index ≡ place)
TellsUnread eager lazy place queue errors.Empty = IsRecordedNext eager None queue

-- what a read tells whose commands are of these types: its place is the one that is counted for it
abbrev pub FindsRead : {L E : Type 0} → (eager lazy : MessageType) → (old : Active) → Result ℕ (ReadError L E) → (new : Active) → Type 0
FindsRead eager lazy old (Err (Replay error)) new = TellsUnread eager lazy (command_place new.journal) old.commands.items error
FindsRead eager lazy old _ new = Unit {0}
