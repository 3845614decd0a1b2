-- What is found among the records that are kept of accepted events.
use Rattle.std.specs.Prelude.{◌≡◌, ℕ, ◌+◌, ◌≤◌, Bool, true, false, not, if◌then◌else◌, List, [], ◌∷◌, ◌&&◌, ◌++◌, length, map, filter, flat_map, drop, slice_get, Option, Some, None, is_some, option_map, option_and_then, option_to_list}
use Rattle.std.specs.List.{find}
use Rattle.journal_model.specs.Notification.{Bytes, Text}
use Rattle.journal_model.specs.Request.{Request, completions_asked}
use Rattle.journal_model.specs.State.{value_of_key}
use Rattle.journal_model.specs.Spelling.{frame_bytes}
use Rattle.journal_model.specs.Event.{Event}
use Rattle.journal_model.specs.Attempt.{input_bytes, journal_pieces}
use Rattle.journal_model.specs.Journal.{Entry, Recorded, Arrived, asks_for as is_asking, invocation_begun, is_busy, is_open, entries_of, requests_in, sleeps_in, sorted_by_moment, can_be_due, is_sleep_over, request_asking, is_awaited, object_state}
use Rattle.journal_model.specs.Cause.{IsAccepted}
use Rattle.sqlite_keyed.specs.Lists.{sort_by}
use Rattle.store_tables.specs.Records.{Records, ends_by, is_at_key, is_sleep_of}
use Rattle.store_tables.specs.Orders.{AreApart, sleep_cmp}
use Rattle.store_tables.specs.declared.row.EntryRow.{EntryRow}
use Rattle.store_tables.specs.declared.row.SleepRow.{SleepRow}
use Rattle.store_tables.specs.Questions.{has_id, is_open_of, is_at_place, asks_for, asks_second_for, answers, journal_of, is_arrival_after, is_arrival_at, is_number, AreCounted, AreInPlace}
use Rattle.store_model.specs.Progress.{first_item, second_of}
use Rattle.store_model.specs.Sleeps.{due_until, sleep_row, sleeps_kept}
use Rattle.store_model.specs.KeptRecords.{entry_row, journal_rows, invocation_row, state_row, IsKept}

-- of all these, what passes a test is this one, or none: so it is the first one, and the only one
abbrev pub IsOnly : {A : Type 0} → (A → Bool) → List A → Option A → Type 0
IsOnly test xs found = filter test xs ≡ option_to_list found

-- the first request that asks for a completion, with its place, among entries that stand from a place on
abbrev pub asked_at : ℕ → List Entry → ℕ → Option (ℕ × Request)
asked_at place [] n = None
asked_at place (Recorded request ∷ entries) n = if is_asking n request then Some (place, request) else asked_at (place + 1) entries n
asked_at place (Arrived arrival ∷ entries) n = asked_at (place + 1) entries n

-- the row of that request, where it asks for the completion first, and where it does so second
abbrev pub row_if : Text → Bool → ℕ × Request → Option EntryRow
row_if id true asked = Some (entry_row id [] asked.0 (Recorded asked.1))
row_if id false asked = None

abbrev pub first_row : Text → ℕ → ℕ × Request → Option EntryRow
first_row id n asked = row_if id (is_number n (first_item (completions_asked asked.1))) asked

abbrev pub second_row : Text → ℕ → ℕ × Request → Option EntryRow
second_row id n asked = row_if id (is_number n (second_of (completions_asked asked.1))) asked

-- what is found in the records that are kept of these events
pub record Finds (events : List Event) (r : Records) : Type 0 where
  -- an invocation by its id
  pub invocation : (id : Text) → IsOnly (has_id id) r.invocations (option_map (invocation_row events) (invocation_begun events id))
  -- an entry by its place, the input at 0; and the places count up
  pub entry : (id : Text) (place : ℕ) → IsOnly (is_at_place id place) r.entries (slice_get (journal_rows events id) place)
  pub places : (id : Text) → AreInPlace 0 (journal_of id r)
  -- a value by its key
  pub value : (object : Text) (key : Bytes)
      → IsOnly (is_at_key object key) r.states (option_map (λ (value : Bytes). state_row object (key, value)) (value_of_key (object_state events object) key))

abbrev pub AllFind : Type 0
AllFind = (events : List Event) (r : Records) → IsAccepted events → IsKept events r → Finds events r

-- the request that asks for a completion, first or second
abbrev pub AllAskOnce : Type 0
AllAskOnce = (events : List Event) (r : Records) (id : Text) (n : ℕ) → IsAccepted events → IsKept events r
    → IsOnly (asks_for id n) r.entries (option_and_then (first_row id n) (asked_at 1 (entries_of events id) n))
    × IsOnly (asks_second_for id n) r.entries (option_and_then (second_row id n) (asked_at 1 (entries_of events id) n))
    × (option_map (λ (asked : ℕ × Request). asked.1) (asked_at 1 (entries_of events id) n) ≡ request_asking (entries_of events id) n)

-- an object's open invocation: one at most, and none where the object is not busy
abbrev pub AllOpenOnce : Type 0
AllOpenOnce = (events : List Event) (r : Records) (object : Text) → IsAccepted events → IsKept events r
    → (is_some (find (is_open_of object) r.invocations) ≡ is_busy events object) × (length (filter (is_open_of object) r.invocations) ≤ 1)

-- the arrival that answers a completion: one at most, and none while the completion is awaited
abbrev pub AllAnswerOnce : Type 0
AllAnswerOnce = (events : List Event) (r : Records) (id : Text) (n : ℕ) → IsAccepted events → IsKept events r
    → (is_some (find (answers id n) r.entries) ≡ not (is_awaited (entries_of events id) n)) × (length (filter (answers id n) r.entries) ≤ 1)

-- a row as a frame: the frames of a journal's rows are what an attempt that is begun then is handed
abbrev pub row_frame : EntryRow → Bytes
row_frame row = frame_bytes row.kind row.payload

abbrev pub AllFrames : Type 0
AllFrames = (events : List Event) (id : Text) → IsAccepted events
    → flat_map row_frame (journal_rows events id) ≡ input_bytes (journal_pieces (invocation_begun events id) (entries_of events id))

-- ---- arrivals

-- the rows of the arrivals among entries that stand behind others, from a place on
abbrev pub rows_of_arrivals : Text → List Entry → ℕ → List Entry → List EntryRow
rows_of_arrivals id before place [] = []
rows_of_arrivals id before place (Recorded request ∷ entries) = rows_of_arrivals id (before ++ Recorded request ∷ []) (place + 1) entries
rows_of_arrivals id before place (Arrived arrival ∷ entries) =
    entry_row id before place (Arrived arrival) ∷ rows_of_arrivals id (before ++ Arrived arrival ∷ []) (place + 1) entries

-- those of an invocation's arrivals, by place; the first of them has the ordinal 1
abbrev pub arrival_rows : List Event → Text → List EntryRow
arrival_rows events id = rows_of_arrivals id [] 1 (entries_of events id)

-- they are found by their ordinals: one, and all behind so many, whose ordinals count up
pub record FindsArrivals (events : List Event) (r : Records) (id : Text) : Type 0 where
  pub one : (k : ℕ) → IsOnly (is_arrival_at id (k + 1)) r.entries (slice_get (arrival_rows events id) k)
  pub behind : (k : ℕ) → filter (is_arrival_after id k) r.entries ≡ drop k (arrival_rows events id)
  pub counted : (k : ℕ) → AreCounted (k + 1) (drop k (arrival_rows events id))

abbrev pub AllArrivalsFound : Type 0
AllArrivalsFound = (events : List Event) (r : Records) (id : Text) → IsAccepted events → IsKept events r → FindsArrivals events r id

-- ---- sleeps

-- the sleeps that are asked for and have not come, and may be due some day, by place
abbrev pub is_open_sleep : List Entry → ℕ × ℕ → Bool
is_open_sleep entries sleep = can_be_due sleep && is_awaited entries sleep.1

abbrev pub open_among : List Entry → List (ℕ × ℕ)
open_among entries = filter (is_open_sleep entries) (sleeps_in (requests_in entries))

abbrev pub open_sleeps : List Event → Text → List SleepRow
open_sleeps events id = if is_open events id then map (sleep_row id) (open_among (entries_of events id)) else []

-- the rows of an invocation's sleeps are those of its open sleeps; a closed one has none
abbrev pub SleepsKeptAfter : Type 0
SleepsKeptAfter = (events : List Event) (id : Text) → IsAccepted events → filter (is_sleep_of id) (sleeps_kept events) ≡ open_sleeps events id

-- the sleeps of an invocation that a tick ends, in the order in which it ends them
abbrev pub ended_sleeps : List Event → ℕ → Text → List (ℕ × ℕ)
ended_sleeps events now id =
    if is_open events id then filter (is_sleep_over (entries_of events id) now) (sorted_by_moment (sleeps_in (requests_in (entries_of events id)))) else []

abbrev pub due_sleeps : ℕ → Records → List SleepRow
due_sleeps now r = filter (ends_by (due_until now)) r.sleeps

-- the rows that are due tell which sleeps a tick ends: no two are alike, and in their order those of an invocation are those
-- that it ends of it
pub record FindsEnded (events : List Event) (now : ℕ) (r : Records) : Type 0 where
  pub apart : AreApart (due_sleeps now r)
  pub ended : (id : Text) → filter (is_sleep_of id) (sort_by sleep_cmp (due_sleeps now r)) ≡ map (sleep_row id) (ended_sleeps events now id)

abbrev pub AllEndedFound : Type 0
AllEndedFound = (events : List Event) (now : ℕ) (r : Records) → IsAccepted events → IsKept events r → FindsEnded events now r
