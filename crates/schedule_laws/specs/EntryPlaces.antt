-- Entries that are recorded keep their places.
use Rattle.std.specs.Prelude.{◌≡◌, List, ◌++◌}
use Rattle.journal_model.specs.Notification.{Text}
use Rattle.journal_model.specs.Event.{Event}
use Rattle.journal_model.specs.Journal.{Entry, entries_of}
use Rattle.journal_model.specs.Cause.{IsAccepted}

-- Whatever is accepted behind some events, the entries of an invocation are those before, and more behind them: none is changed or removed, and
-- each has the place that it had.
abbrev pub EntriesKeepPlaces : Type 0
EntriesKeepPlaces = (events more : List Event) (id : Text) → IsAccepted (more ++ events) → (rest : List Entry) × (entries_of (more ++ events) id ≡ entries_of events id ++ rest)
