-- What is shown of entries that fit are the entries themselves.
use Rattle.std.specs.Prelude.{◌≡◌, ℕ, ◌+◌, List, [], ◌∷◌, ◌++◌}
use Rattle.std.specs.List.{AllByRecursion, flat_map}
use Rattle.journal_model.specs.Notification.{Text}
use Rattle.journal_model.specs.Event.{Event}
use Rattle.journal_model.specs.Journal.{Entry, Recorded, Arrived, entries_of}
use Rattle.journal_model.specs.Spelling.{request_type, request_payload}
use Rattle.protocol_types.specs.MessageType.{type_number}
use Rattle.vm_input_laws.specs.Arrivals.{ArrivalFits}
use Rattle.store_invocations.specs.JournalContent.{entries_told}
use Rattle.script_lines.specs.Text.{request_line}
use Rattle.script_lines.specs.Arrival.{arrival_line}
use Rattle.shown_records.specs.declared.entry.ShownEntry.{ShownEntry}
use Rattle.shown_records.specs.Entries.{AreShown, brought_words, entry_text, id_word}

-- the line of an entry at its place
abbrev pub line_at : ℕ → Entry → List ℕ
line_at place (Recorded request) = request_line place (type_number (request_type request)) (request_payload request) ++ 10 ∷ []
line_at place (Arrived arrival) = arrival_line place (id_word arrival.id) (brought_words arrival.result) ++ 10 ∷ []

-- those from a place on
abbrev pub lines_from : ℕ → List Entry → List ℕ
lines_from place [] = []
lines_from place (entry ∷ entries) = line_at place entry ++ lines_from (place + 1) entries

-- the numbers of an arrival are within their types, and its texts are UTF-8
abbrev pub EntryFits : Entry → Type 0
EntryFits (Recorded request) = Unit {0}
EntryFits (Arrived arrival) = ArrivalFits arrival

-- What is shown of an invocation's entries is each with its place, from 1 on: a request as it was spelled, an arrival as it was brought.
abbrev pub EntriesAreShown : Type 0
EntriesAreShown = (events : List Event) (id : Text) (shown : List ShownEntry) → AllByRecursion EntryFits (entries_of events id) → AreShown (entries_told events id) shown
    → flat_map entry_text shown ≡ lines_from 1 (entries_of events id)
