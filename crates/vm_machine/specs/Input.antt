-- What reading the input answers and leaves.
use Rattle.std.specs.Prelude.{◌≡◌, ◌≢◌, ◌-◌, ◌-ℤ◌, ◌^◌, ℕ, ℤ, pos, min, List, [], drop, length, Option, Some, None, Result, Ok, Err}
use Rattle.protocol_messages.specs.Decodings.{DecodesTo}
use Rattle.protocol_records.specs.InputCommand.{input_command_of}
use Rattle.protocol_records.specs.declared.input_command.InputCommandMessage.{InputCommandMessage}
use Rattle.protocol_stream.specs.declared.decoder.DecodingError.TheVariants as unread
use Rattle.protocol_stream.specs.declared.decoder.RawMessage.{RawMessage}
use Rattle.protocol_table.specs.declared.table.RecordType.TheVariants as records
use Rattle.protocol_types.specs.declared.message_type.MessageType.TheVariants.{InputCommand}
use Rattle.vm_calls.specs.declared.active.Active.{Active}
use Rattle.vm_calls.specs.Active.{still_replays}
use Rattle.vm_commands.specs.NextCommand.{next_of}
use Rattle.vm_context.specs.Journal.{JournalCounts, after_command, after_skip}
use Rattle.vm_types.specs.declared.options.JournalReplay.{JournalReplay}
use Rattle.vm_machine.specs.declared.input.InputError.{InputError}
use Rattle.vm_machine.specs.declared.input.InputError.TheVariants.{Unavailable, Decoding, OutOfMemory}

-- the message is an input; or it is none, or none is there
abbrev pub TakesInput : ℤ → Option RawMessage → Result InputCommandMessage InputError → Type 0
TakesInput index None (Err (Unavailable error)) = error.expected ≡ InputCommand
TakesInput index None _ = ⊥
TakesInput index (Some message) (Ok input) = DecodesTo records.InputCommand input_command_of index message (Ok input)
TakesInput index (Some message) (Err (Decoding error)) = DecodesTo {R = InputCommandMessage} records.InputCommand input_command_of index message (Err error) × (error ≢ unread.OutOfMemory)
TakesInput index (Some message) (Err (Unavailable error)) = ⊥
TakesInput index (Some message) (Err OutOfMemory) = Unit {0}

-- how many commands are gone past
abbrev pub skipped : List RawMessage → ℕ
skipped messages = min (length messages) (2 ^ 32 - 1)

-- the commands that are replayed, of those behind the input
abbrev pub replayed : JournalReplay → List RawMessage → List RawMessage
replayed JournalReplay.Enabled messages = messages
replayed JournalReplay.Disabled messages = []

-- what is counted behind the input
abbrev pub input_counted : JournalReplay → List RawMessage → JournalCounts → JournalCounts
input_counted JournalReplay.Enabled messages journal = journal
input_counted JournalReplay.Disabled messages journal = after_skip (skipped messages) journal

-- the input is asked for
abbrev pub at_input : Active → JournalCounts
at_input active = after_command InputCommand [] active.journal

-- the input was read, and what is replayed is left
pub record LeavesReplayed (replay : JournalReplay) (old new : Active) : Type 0 where
  pub left : new.commands.items ≡ replayed replay (drop 1 old.commands.items)
  pub journal : new.journal ≡ input_counted replay (drop 1 old.commands.items) (at_input old)
  pub replaying : new.is_replaying ≡ still_replays old.is_replaying new.commands.items
  pub others : new ≡ record old { is_replaying = new.is_replaying; commands = new.commands; journal = new.journal }

abbrev pub LeavesInput : JournalReplay → (old : Active) → Result InputCommandMessage InputError → (new : Active) → Type 0
LeavesInput replay old (Ok input) new = LeavesReplayed replay old new
LeavesInput replay old (Err error) new = (new.commands.items ≡ drop 1 old.commands.items) × (new ≡ record old { commands = new.commands; journal = at_input old })

-- The first recorded command is read as the input.
pub record ReadsInput (replay : JournalReplay) (old : Active) (result : Result InputCommandMessage InputError) (new : Active) : Type 0 where
  pub takes : TakesInput (pos (at_input old).commands -ℤ pos 1) (next_of old.commands.items) result
  pub leaves : LeavesInput replay old result new
