-- What a tick writes of the sleeps of one invocation that it ends.
use Rattle.std.specs.Prelude.{◌≡◌, ℕ, ◌+◌, List, [], ◌∷◌, map, Some}
use Rattle.journal_model.specs.Notification.{Bytes, Text}
use Rattle.journal_model.specs.declared.notification.NotificationResult.{NotificationResult}
use Rattle.journal_model.specs.Journal.{completion}
use Rattle.journal_model.specs.Spelling.{notification_payload}
use Rattle.protocol_types.specs.declared.message_type.MessageType.TheVariants.{SleepCompletionNotification}
use Rattle.store_tables.specs.declared.row.EntryRow.{EntryRow}
use Rattle.store_model.specs.KeptRecords.{plain_row}

-- the payload of a sleep's end
abbrev pub end_payload : ℕ → Bytes
end_payload n = notification_payload (completion n NotificationResult.Void)

-- its row, behind so many arrivals
abbrev pub end_row : Text → ℕ → ℕ → ℕ → EntryRow
end_row id place before n = record (plain_row id place SleepCompletionNotification (end_payload n)) { answered = Some n; arrival = Some (1 + before) }

-- from a place on
abbrev pub end_rows : Text → ℕ → ℕ → List ℕ → List EntryRow
end_rows id place before [] = []
end_rows id place before (n ∷ ns) = end_row id place before n ∷ end_rows id (place + 1) (before + 1) ns
