-- What is told of the journal of an invocation.
use Rattle.std.specs.Prelude.{ℕ, ◌+◌, ◌==◌, Bool, true, false, not, List, [], ◌∷◌}
use Rattle.journal_model.specs.Notification.{Text}
use Rattle.journal_model.specs.Spelling.{request_type, request_payload, notification_payload}
use Rattle.journal_model.specs.Event.{Event}
use Rattle.journal_model.specs.Journal.{Entry, Recorded, Arrived, entries_of}
use Rattle.journal_model.specs.Attempt.{notification_type}
use Rattle.protocol_types.specs.MessageType.{is_command}
use Rattle.store_tables.specs.declared.row.EntryRow.{EntryRow}
use Rattle.store_invocations.specs.declared.recorded.EntryKind.{EntryKind}
use Rattle.store_invocations.specs.declared.recorded.EntryKind.TheVariants as kinds
use Rattle.store_invocations.specs.declared.recorded.RecordedEntry.{RecordedEntry}

-- ---- of a row

abbrev pub kind_by : Bool → EntryKind
kind_by true = kinds.Request
kind_by false = kinds.Arrival

-- the input stands before the entries
abbrev pub is_entry : EntryRow → Bool
is_entry row = not (row.place == 0)

abbrev pub entry_read : EntryRow → RecordedEntry
entry_read row = record { place = row.place; kind = kind_by (is_command row.kind); ty = row.kind; payload = row.payload }

-- ---- of the events

-- an entry at its place, as its frame; the type of an arrival's is the one by which its request, which is among the entries, is completed
abbrev pub entry_told : List Entry → ℕ → Entry → RecordedEntry
entry_told entries place (Recorded request) =
    record { place = place; kind = kinds.Request; ty = request_type request; payload = request_payload request }
entry_told entries place (Arrived arrival) =
    record { place = place; kind = kinds.Arrival; ty = notification_type entries arrival.id; payload = notification_payload arrival }

-- those from a place on
abbrev pub told_from : List Entry → ℕ → List Entry → List RecordedEntry
told_from all place [] = []
told_from all place (entry ∷ entries) = entry_told all place entry ∷ told_from all (place + 1) entries

-- all of an invocation, of which the first has place 1
abbrev pub entries_told : List Event → Text → List RecordedEntry
entries_told events id = told_from (entries_of events id) 1 (entries_of events id)
