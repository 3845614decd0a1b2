-- What is written of an event removes no invocation.
use Rattle.std.proofs.Common.{ℕ, Bool, true, false, if◌then◌else◌, List, [], ◌∷◌, map, flat_map, Option, None, Some}
use Rattle.std.specs.List.{AllByRecursion}
use Rattle.sqlite_keyed.proofs.ListLemmas.{all-append}
use Rattle.journal_model.specs.Notification.{Text}
use Rattle.journal_model.specs.Request.{Request}
use Rattle.journal_model.specs.Event.{Event, Frame}
use Rattle.journal_model.specs.Journal.{closes, version_of}
use Rattle.store_tables.specs.declared.row.EntryRow.{EntryRow}
use Rattle.store_tables.specs.declared.row.SleepRow.{SleepRow}
use Rattle.store_tables.specs.declared.row.Write.{Write}
use Rattle.store_tables.specs.declared.row.Write.TheVariants.{AddEntry, CloseSleeps, DropInvocation, OpenSleep}
use Rattle.store_model.specs.Sleeps.{sleeps_opened}
use Rattle.store_model.specs.Writes.{begin_writes, changed_by, invocation_writes, object_changed, rows_added, sleep_writes, sleep_writes_of, state_requests, state_write, state_writes, writes_of}
use Rattle.store_arrivals.specs.PreparedTicks.{ready_writes}

abbrev pub DropsNone : Write → Type 0
DropsNone (DropInvocation id) = ⊥
DropsNone _ = Unit {0}

abbrev pub AllDropNone : List Write → Type 0
AllDropNone writes = AllByRecursion DropsNone writes

each_drops_none : {X : Type 0} (f : X → List Write) → ((x : X) → AllDropNone (f x)) → (xs : List X) → AllDropNone (flat_map f xs)
each_drops_none f none [] = tt
each_drops_none f none (x ∷ xs) = all-append DropsNone (f x) (flat_map f xs) (none x) (each_drops_none f none xs)

entries_drop_none : (rows : List EntryRow) → AllDropNone (map AddEntry rows)
entries_drop_none [] = tt
entries_drop_none (row ∷ rows) = (tt, entries_drop_none rows)

sleeps_drop_none : (rows : List SleepRow) → AllDropNone (map OpenSleep rows)
sleeps_drop_none [] = tt
sleeps_drop_none (row ∷ rows) = (tt, sleeps_drop_none rows)

begin_drops_none : (events : List Event) (event : Event) → AllDropNone (begin_writes events event)
begin_drops_none events (Event.Invoke new) = (tt, (tt, tt))
begin_drops_none events event = tt

invocation_drops_none : (events : List Event) (event : Event) (id : Text) → AllDropNone (invocation_writes events event id)
invocation_drops_none events event id = all-append DropsNone (map AddEntry (rows_added events event id)) _ (entries_drop_none (rows_added events event id)) (tt, tt)

closing_drops_none : (b : Bool) (id : Text) → AllDropNone (if b then CloseSleeps id ∷ [] else [])
closing_drops_none true id = (tt, tt)
closing_drops_none false id = tt

frame_drops_none : (version : ℕ) (id : Text) (frame : Frame) → AllDropNone (sleep_writes_of version id frame)
frame_drops_none version id (Frame.Command request) = sleeps_drop_none (sleeps_opened id request)
frame_drops_none version id frame = closing_drops_none (closes version frame) id

closed_drop_none : (events : List Event) (event : Event) → AllDropNone (sleep_writes events event)
closed_drop_none events (Event.Move id attempt frame) = frame_drops_none (version_of events id) id frame
closed_drop_none events (Event.Tick now) = (tt, tt)
closed_drop_none events event = tt

request_drops_none : (object : Text) (request : Request) → AllDropNone (state_write object request)
request_drops_none object (Request.SetState key value name) = (tt, tt)
request_drops_none object (Request.ClearState key name) = (tt, tt)
request_drops_none object (Request.ClearAllState name) = (tt, tt)
request_drops_none object request = tt

states_drop_none : (object : Option Text) (requests : List Request) → AllDropNone (state_writes object requests)
states_drop_none None requests = tt
states_drop_none (Some object) requests = each_drops_none (state_write object) (request_drops_none object) requests

pub event_drops_none : (events : List Event) (event : Event) → AllDropNone (writes_of events event)
event_drops_none events event =
    all-append DropsNone (begin_writes events event) _ (begin_drops_none events event)
    (all-append DropsNone (flat_map (invocation_writes events event) (changed_by events event)) _ (each_drops_none (invocation_writes events event) (invocation_drops_none events event) (changed_by events event))
    (all-append DropsNone (sleep_writes events event) _ (closed_drop_none events event) (states_drop_none (object_changed events event) (state_requests event))))

-- nor do the writes of a tick, in whatever order
pub tick_drops_none : (events : List Event) (now : ℕ) (ids : List Text) → AllDropNone (ready_writes events now ids)
tick_drops_none events now [] = tt
tick_drops_none events now (id ∷ ids) =
    all-append DropsNone (flat_map (invocation_writes events (Event.Tick now)) (id ∷ ids)) _ (each_drops_none (invocation_writes events (Event.Tick now)) (invocation_drops_none events (Event.Tick now)) (id ∷ ids)) (tt, tt)
