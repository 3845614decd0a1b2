-- What an accepted event writes, and that these writes lead from the records kept before it to those kept after it.
pub use Rattle.due_laws.specs.NextMoment.{ends_sleep}
use Rattle.std.specs.Prelude.{◌≡◌, ℕ, ◌+◌, if◌then◌else◌, List, [], ◌∷◌, ◌++◌, length, map, filter, flat_map, Option, Some, None, bytes_eq}
use Rattle.journal_model.specs.Notification.{Text}
use Rattle.journal_model.specs.Request.{Request}
use Rattle.journal_model.specs.declared.invocation.NewInvocation.{NewInvocation}
use Rattle.journal_model.specs.Event.{Frame, Event}
use Rattle.journal_model.specs.Journal.{version_of, closes, entries_of, entries_of_event, starting_state, object_of, frame_of, request_of_frame}
use Rattle.journal_model.specs.Cause.{causes_of, IsAccepted}
use Rattle.store_tables.specs.Records.{Records, no_records, applied_all}
use Rattle.store_tables.specs.declared.row.EntryRow.{EntryRow}
use Rattle.store_tables.specs.declared.row.Write.{Write}
use Rattle.store_tables.specs.declared.row.Write.TheVariants.{AddInvocation, SetProgress, AddEntry, PutState, DropState, DropStates, OpenSleep, CloseSleeps, CloseSleepsUntil}
use Rattle.store_model.specs.Progress.{progress_of}
use Rattle.store_model.specs.Sleeps.{due_until, sleeps_opened}
use Rattle.store_model.specs.KeptRecords.{rows_from, input_row, begun, invocation_row, IsKept}

-- a new invocation, with its input
abbrev pub begin_writes : List Event → Event → List Write
begin_writes events (Event.Invoke new) = AddInvocation (invocation_row (Event.Invoke new ∷ events) new) ∷ AddEntry (input_row new) ∷ []
begin_writes events _ = []

-- the rows of the entries that the event adds to an invocation, behind those that it has
abbrev pub rows_added : List Event → Event → Text → List EntryRow
rows_added events event id =
    rows_from id (entries_of events id) (1 + length (entries_of events id)) (entries_of_event (starting_state events id) (entries_of events id) event)

-- what is written of one invocation: what is added to its journal, and how far it is then
abbrev pub invocation_writes : List Event → Event → Text → List Write
invocation_writes events event id = map AddEntry (rows_added events event id) ++ SetProgress id (progress_of (event ∷ events) id) ∷ []

-- a frame by which its attempt only tells that it waits, and one that is never accepted, leave the records as they are
abbrev pub ids_of_frame : Text → Frame → List Text
ids_of_frame id (Frame.AwaitingOn awaited) = []
ids_of_frame id Frame.Broken = []
ids_of_frame id Frame.TooDeep = []
ids_of_frame id Frame.NotAccepted = []
ids_of_frame id _ = id ∷ []

-- the invocations, begun before, of which an event changes what is kept
abbrev pub changed_by : List Event → Event → List Text
changed_by events (Event.Result id n result) = id ∷ []
changed_by events (Event.Signal id key result) = id ∷ []
changed_by events (Event.Cancel id) = id ∷ []
changed_by events (Event.Tick now) = filter (ends_sleep events now) (map (λ (new : NewInvocation). new.id) (begun events))
changed_by events (Event.Begin id now) = id ∷ []
changed_by events (Event.Move id attempt frame) = ids_of_frame id frame
changed_by events _ = []

-- what a request writes of its object's state
abbrev pub state_write : Text → Request → List Write
state_write object (Request.SetState key value name) = PutState (record { object = object; key = key; value = value }) ∷ []
state_write object (Request.ClearState key name) = DropState object key ∷ []
state_write object (Request.ClearAllState name) = DropStates object ∷ []
state_write object _ = []

abbrev pub state_writes : Option Text → List Request → List Write
state_writes None requests = []
state_writes (Some object) requests = flat_map (state_write object) requests

-- what a frame of that version writes of its invocation's sleeps: a sleep that it asks for is opened, and all are closed with the
-- invocation
abbrev pub sleep_writes_of : ℕ → Text → Frame → List Write
sleep_writes_of version id (Frame.Command request) = map OpenSleep (sleeps_opened id request)
sleep_writes_of version id frame = if closes version frame then CloseSleeps id ∷ [] else []

-- a tick closes those that it ends
abbrev pub sleep_writes : List Event → Event → List Write
sleep_writes events (Event.Move id attempt frame) = sleep_writes_of (version_of events id) id frame
sleep_writes events (Event.Tick now) = CloseSleepsUntil (due_until now) ∷ []
sleep_writes events _ = []

-- the object whose state an event may change, and the requests by which it does
abbrev pub object_changed : List Event → Event → Option Text
object_changed events (Event.Edit object request) = Some object
object_changed events event = object_of events event

abbrev pub state_requests : Event → List Request
state_requests (Event.Edit object request) = request ∷ []
state_requests event = request_of_frame (frame_of event)

abbrev pub writes_of : List Event → Event → List Write
writes_of events event =
    begin_writes events event
    ++ (flat_map (invocation_writes events event) (changed_by events event)
    ++ (sleep_writes events event
    ++ state_writes (object_changed events event) (state_requests event)))

-- of no events no records are kept
abbrev pub KeptAtFirst : Type 0
KeptAtFirst = IsKept [] no_records

-- the writes of an accepted event make of the records that are kept of the events before it those that are kept of it too
abbrev pub KeptAfter : Type 0
KeptAfter = (events : List Event) (event : Event) (r : Records) → IsAccepted events → causes_of events event ≡ [] → IsKept events r
    → IsKept (event ∷ events) (applied_all (writes_of events event) r)

-- these are the invocations of which a moment ends sleeps, each once
abbrev pub AreEnding : List Event → ℕ → List Text → Type 0
AreEnding events now ids = (id : Text) → filter (λ x. bytes_eq x id) ids ≡ (if ends_sleep events now id then id ∷ [] else [])

-- the writes of a tick, whichever invocation is the first
abbrev pub tick_writes : List Event → ℕ → List Text → List Write
tick_writes events now ids = flat_map (invocation_writes events (Event.Tick now)) ids ++ sleep_writes events (Event.Tick now)

-- in any order they make of the records that are kept those that are kept after the tick
abbrev pub KeptInAnyOrder : Type 0
KeptInAnyOrder = (events : List Event) (now : ℕ) (ids : List Text) (r : Records) → IsAccepted events → causes_of events (Event.Tick now) ≡ [] → AreEnding events now ids
    → IsKept events r → IsKept (Event.Tick now ∷ events) (applied_all (tick_writes events now ids) r)
