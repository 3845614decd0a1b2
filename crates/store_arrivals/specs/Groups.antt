-- The sleeps that are due, those of an invocation side by side, as one group an invocation.
use Rattle.std.specs.Prelude.{◌≡◌, ℕ, ◌+◌, true, if◌then◌else◌, List, [], ◌∷◌, length, map, filter, bytes_eq}
use Rattle.sqlite_keyed.specs.Lists.{sort_by}
use Rattle.journal_model.specs.Notification.{Text}
use Rattle.journal_model.specs.Event.{Event}
use Rattle.journal_model.specs.Journal.{is_open, entries_of, recorded_arrivals}
use Rattle.journal_model.specs.Attempt.{completions_of_tick}
use Rattle.journal_model.specs.Cause.{IsAccepted}
use Rattle.store_tables.specs.Records.{Records, is_sleep_of}
use Rattle.store_tables.specs.Orders.{sleep_cmp}
use Rattle.store_model.specs.KeptRecords.{IsKept}
use Rattle.store_model.specs.Writes.{AreEnding, rows_added}
use Rattle.store_model.specs.Lookups.{due_sleeps, ended_sleeps}
use Rattle.store_arrivals.specs.SleepEnds.{end_rows}
use Rattle.store_tables.specs.declared.row.SleepRow.{SleepRow}

-- an invocation, with the completions of its sleeps in order
abbrev pub Group : Type 0
Group = Text × List ℕ

-- a sleep before others
abbrev pub put_first : SleepRow → List Group → List Group
put_first s [] = (s.invocation, s.completion ∷ []) ∷ []
put_first s (group ∷ groups) =
    if bytes_eq group.0 s.invocation then (group.0, s.completion ∷ group.1) ∷ groups else (s.invocation, s.completion ∷ []) ∷ group ∷ groups

abbrev pub grouped : List SleepRow → List Group
grouped [] = []
grouped (s ∷ rows) = put_first s (grouped rows)

-- the group of one invocation, if it has a sleep
abbrev pub group_of : Text → List SleepRow → List Group
group_of id [] = []
group_of id (s ∷ rows) = (id, map (λ (row : SleepRow). row.completion) (s ∷ rows)) ∷ []

-- of each invocation there is one group, with all of its sleeps
abbrev pub AreGrouped : List SleepRow → Type 0
AreGrouped rows = (id : Text) → filter (λ (group : Group). bytes_eq group.0 id) (grouped rows) ≡ group_of id (filter (is_sleep_of id) rows)

-- ---- by the accepted events

abbrev pub those_ended : ℕ → Records → List Group
those_ended now r = grouped (sort_by sleep_cmp (due_sleeps now r))

-- these are the invocations of which a tick ends sleeps
abbrev pub AllEndingGrouped : Type 0
AllEndingGrouped = (events : List Event) (now : ℕ) (r : Records) → IsAccepted events → IsKept events r
    → AreEnding events now (map (λ (group : Group). group.0) (those_ended now r))

-- what a tick adds to an open invocation
abbrev pub AllRowsEnded : Type 0
AllRowsEnded = (events : List Event) (now : ℕ) (id : Text) → IsAccepted events → is_open events id ≡ true
    → rows_added events (Event.Tick now) id ≡ end_rows id (1 + length (entries_of events id)) (length (recorded_arrivals events id)) (map (λ (sleep : ℕ × ℕ). sleep.1) (ended_sleeps events now id))

-- a tick ends as many sleeps as rows are due
abbrev pub AllEndedCounted : Type 0
AllEndedCounted = (events : List Event) (now : ℕ) (r : Records) → IsAccepted events → IsKept events r
    → length (sort_by sleep_cmp (due_sleeps now r)) ≡ completions_of_tick events now
