-- Which sleeps are kept apart from the journals: those that may still be ended, each opened by its request, and closed by the tick
-- that ends it or by the end of its invocation.
use Rattle.std.specs.Prelude.{ℕ, ◌-◌, nat_lt, not, Bool, if◌then◌else◌, List, [], ◌∷◌, ◌++◌, map, filter}
use Rattle.journal_model.specs.Notification.{Text}
use Rattle.journal_model.specs.Request.{Request}
use Rattle.journal_model.specs.Event.{Frame, Event}
use Rattle.journal_model.specs.Journal.{version_of, closes, sleep_in, never, can_be_due}
use Rattle.store_tables.specs.Records.{ends_by, is_sleep_of}
use Rattle.store_tables.specs.declared.row.SleepRow.{SleepRow}

-- a sleep by its moment and its completion, and its row
abbrev pub sleep_row : Text → ℕ × ℕ → SleepRow
sleep_row id sleep = record { moment = sleep.0; invocation = id; completion = sleep.1 }

-- the last moment by which a tick at this one ends sleeps
abbrev pub due_until : ℕ → ℕ
due_until now = if nat_lt now never then now else never - 1

-- the sleep that a request opens
abbrev pub sleeps_opened : Text → Request → List SleepRow
sleeps_opened id request = map (sleep_row id) (filter can_be_due (sleep_in request))

-- after a frame of an invocation that speaks this version
abbrev pub sleeps_after_frame : ℕ → Text → Frame → List SleepRow → List SleepRow
sleeps_after_frame version id (Frame.Command request) sleeps = sleeps ++ sleeps_opened id request
sleeps_after_frame version id frame sleeps = if closes version frame then filter (λ s. not (is_sleep_of id s)) sleeps else sleeps

-- after an event, from those before it
abbrev pub sleeps_after : List Event → Event → List SleepRow → List SleepRow
sleeps_after events (Event.Move id attempt frame) sleeps = sleeps_after_frame (version_of events id) id frame sleeps
sleeps_after events (Event.Tick now) sleeps = filter (λ s. not (ends_by (due_until now) s)) sleeps
sleeps_after events _ sleeps = sleeps

-- the first one opened first
abbrev pub sleeps_kept : List Event → List SleepRow
sleeps_kept [] = []
sleeps_kept (event ∷ earlier) = sleeps_after earlier event (sleeps_kept earlier)
