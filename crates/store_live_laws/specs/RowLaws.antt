-- What the rows tell of an invocation that waits, of which are due, of when the next sleep ends, and of which invocations an event
-- changes what is noted.
use Rattle.std.specs.Prelude.{◌≡◌, false, List, ◌∷◌, map, filter, drop, Option, option_map, bytes_eq, IsPermutation}
use Rattle.std.specs.List.{list_any}
use Rattle.journal_model.specs.Notification.{Text}
use Rattle.journal_model.specs.Spelling.{notification_payload}
use Rattle.journal_model.specs.Event.{Event}
use Rattle.journal_model.specs.Journal.{begins}
use Rattle.journal_model.specs.Cause.{IsAccepted}
use Rattle.journal_model.specs.Attempt.{is_none, live_attempt, due}
use Rattle.due_laws.specs.Awake.{heard_of, or_zero, not_heard, is_awake_kept, noted_of}
use Rattle.store_tables.specs.declared.row.EntryRow.{EntryRow}
use Rattle.store_tables.specs.declared.row.InvocationRow.{InvocationRow}
use Rattle.due_laws.specs.NextMoment.{IsNextMoment}
use Rattle.sql_tables.specs.Statements.{IsFirst}
use Rattle.store_tables.specs.Records.{Records, ends_from}
use Rattle.store_tables.specs.Orders.{moment_cmp}
use Rattle.store_tables.specs.Questions.{DoAscend, is_awake}
use Rattle.store_tables.specs.declared.row.SleepRow.{SleepRow}
use Rattle.store_model.specs.KeptRecords.{begun, invocation_row, IsKept}
use Rattle.store_model.specs.Writes.{changed_by}
use Rattle.store_model.specs.Lookups.{arrival_rows}

-- the rows behind those that were heard are the arrivals that were not handed
abbrev pub RowsAreNotHeard : Type 0
RowsAreNotHeard = (events : List Event) (id : Text)
    → map (λ (row : EntryRow). row.payload) (drop (or_zero (heard_of events id)) (arrival_rows events id)) ≡ map notification_payload (not_heard events id)

-- what is noted of an invocation changes only where its progress is written
abbrev pub ChangedCovers : Type 0
ChangedCovers = (events : List Event) (event : Event) (id : Text) → IsAccepted (event ∷ events) → begins id event ≡ false → list_any (bytes_eq id) (changed_by events event) ≡ false
    → noted_of (event ∷ events) id ≡ noted_of events id

-- the ids of the rows that have the flag, by ascending ids, without those with a live attempt, are those that are due
abbrev pub DueFromRows : Type 0
DueFromRows = (events : List Event) (rows : List InvocationRow) → IsAccepted events → DoAscend (λ (row : InvocationRow). row.id) rows
    → IsPermutation (filter (λ (row : InvocationRow). is_awake_kept events row.id) (map (invocation_row events) (begun events))) rows
    → due events ≡ filter (λ id. is_none (live_attempt events id)) (map (λ (row : InvocationRow). row.id) rows)

-- these are those of the records that have the flag
abbrev pub DueFromRecords : Type 0
DueFromRecords = (events : List Event) (r : Records) (rows : List InvocationRow) → IsAccepted events → IsKept events r → DoAscend (λ (row : InvocationRow). row.id) rows
    → IsPermutation (filter is_awake r.invocations) rows → due events ≡ filter (λ id. is_none (live_attempt events id)) (map (λ (row : InvocationRow). row.id) rows)

-- and they have such an order
abbrev pub AwakeAreArranged : Type 0
AwakeAreArranged = (events : List Event) (r : Records) → IsAccepted events → IsKept events r
    → (rows : List InvocationRow) × DoAscend (λ (row : InvocationRow). row.id) rows × IsPermutation (filter is_awake r.invocations) rows

-- the first of the sleeps that are kept is the next one that a tick ends
abbrev pub NextFromRecords : Type 0
NextFromRecords = (events : List Event) (r : Records) (first : Option SleepRow) → IsAccepted events → IsKept events r → IsFirst moment_cmp (filter (ends_from 0) r.sleeps) first
    → IsNextMoment events (option_map (λ (sleep : SleepRow). sleep.moment) first)
