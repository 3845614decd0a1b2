-- What is counted of an attempt's commands and ids, and how a command is told in an error.
use Rattle.std.specs.Prelude.{ℕ, ◌+◌, ◌-◌, ◌*◌, ◌^◌, min, Bool, true, false, if◌then◌else◌, List, [], ◌∷◌, codes, Option, Some, None}
use Rattle.journal_model.specs.Notification.{Text}
use Rattle.protocol_types.specs.declared.message_type.MessageType.{MessageType}
use Rattle.protocol_types.specs.declared.message_type.MessageType.TheVariants.{Start}
use Rattle.protocol_types.specs.MessageType.{is_command}
use Rattle.protocol_stream.specs.CommandType.{message_type_of}
use Rattle.protocol_errors.specs.declared.metadata.CommandMetadata.{CommandMetadata}
use Rattle.protocol_differences.specs.declared.relationship.CommandRelationship.{CommandRelationship}

pub record JournalCounts : Type 0 where
  -- how many commands there were
  pub commands : ℕ
  -- the numbers of the next completion and of the next awakeable's signal; from 2^32 on none is left
  pub completions : ℕ
  pub signals : ℕ
  -- the type and the name of the last command, `Start` and none where there was none
  pub last_type : MessageType
  pub last_name : Text

-- what is told where a number lacks
abbrev pub no_id_text : List ℕ
no_id_text = codes "No id is left"

-- before the first command
abbrev pub no_commands : JournalCounts
no_commands = record { commands = 0; completions = 1; signals = 17; last_type = Start; last_name = [] }

-- so many more commands; an index is at most the greatest of 63 bits
abbrev pub more_commands : ℕ → ℕ → ℕ
more_commands count more = min (count + more) (2 ^ 63 - 1)

abbrev pub commands_after : MessageType → ℕ → ℕ
commands_after ty count = if is_command ty then more_commands count 1 else count

-- a command is asked for
abbrev pub after_command : MessageType → Text → JournalCounts → JournalCounts
after_command ty name journal = record journal { commands = commands_after ty journal.commands; last_type = ty; last_name = name }

-- so many numbers of completions, or of signals, are taken
abbrev pub after_completions : ℕ → JournalCounts → JournalCounts
after_completions taken journal = record journal { completions = journal.completions + taken }

abbrev pub after_signal : JournalCounts → JournalCounts
after_signal journal = record journal { signals = journal.signals + 1 }

-- recorded commands that are not matched are gone past: a command takes two completions at most
abbrev pub after_skip : ℕ → JournalCounts → JournalCounts
after_skip skipped journal = record journal {
  commands = more_commands journal.commands skipped;
  completions = min (journal.completions + 2 * skipped) (2 ^ 32);
}

-- the index of the last command, 0 where there was none, and the one behind it, as 32 bits hold them
abbrev pub last_index : JournalCounts → ℕ
last_index journal = min (journal.commands - 1) (2 ^ 32 - 1)

abbrev pub next_index : JournalCounts → ℕ
next_index journal = min ((journal.commands - 1) + 1) (2 ^ 32 - 1)

-- an empty name is told as none
abbrev pub name_told : Text → Option Text
name_told [] = None
name_told (byte ∷ bytes) = Some (byte ∷ bytes)

-- the command that an error is about
abbrev pub command_told : JournalCounts → CommandRelationship → CommandMetadata
command_told journal CommandRelationship.Last = record { index = last_index journal; ty = journal.last_type; name = name_told journal.last_name }
command_told journal (CommandRelationship.Next ty name) = record { index = next_index journal; ty = message_type_of ty; name = name }
command_told journal (CommandRelationship.Specific index ty name) = record { index = index; ty = message_type_of ty; name = name }

-- whether a name is copied for it
abbrev pub has_name : Text → Bool
has_name [] = false
has_name (byte ∷ bytes) = true

abbrev pub copies_name : JournalCounts → CommandRelationship → Bool
copies_name journal CommandRelationship.Last = has_name journal.last_name
copies_name journal _ = false
