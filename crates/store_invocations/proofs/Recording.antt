-- The outputs that are recorded are those that were taken.
use Rattle.std.proofs.Common.{Bool, true, false, if◌then◌else◌, map, List, [], ◌∷◌, ◌++◌}
use Rattle.std.specs.List.{AllByRecursion}
use Rattle.journal_model.specs.Notification.{Text, Arrival}
use Rattle.journal_model.specs.State.{StateMap, state_after}
use Rattle.journal_model.specs.Event.{Frame, Event}
use Rattle.journal_model.specs.Journal.{Entry, Recorded, Arrived, adds_to, entries_added, entries_from, entries_of, entries_of_event, read_answer, recorded_requests, requests_in, slept, starting_state, version_of}
use Rattle.store_frames.specs.ReadFrames.{AreRead, IsReadIn}
use Rattle.store_invocations.proofs.Holding.{IsHeld, request_held}

abbrev IsHeldEntry : Entry → Type 0
IsHeldEntry (Recorded request) = IsHeld request
IsHeldEntry (Arrived arrival) = Unit {0}

abbrev AreHeldEntries : List Entry → Type 0
AreHeldEntries entries = AllByRecursion IsHeldEntry entries

both_held : (xs ys : List Entry) → AreHeldEntries xs → AreHeldEntries ys → AreHeldEntries (xs ++ ys)
both_held [] ys first later = later
both_held (x ∷ xs) ys first later = (first.0, both_held xs ys first.1 later)

arrivals_held : (arrivals : List Arrival) → AreHeldEntries (map Arrived arrivals)
arrivals_held [] = tt
arrivals_held (arrival ∷ arrivals) = (tt, arrivals_held arrivals)

event_held : (earlier : List Event) (start : StateMap) (entries : List Entry) (event : Event) → IsReadIn earlier event → AreHeldEntries (entries_of_event start entries event)
event_held earlier start entries (Event.Result id n result) read = (tt, tt)
event_held earlier start entries (Event.Signal id key result) read = (tt, tt)
event_held earlier start entries (Event.Cancel id) read = (tt, tt)
event_held earlier start entries (Event.Tick now) read = arrivals_held (slept entries now)
event_held earlier start entries (Event.Move id attempt (Frame.Command request)) read =
    (request_held (version_of earlier id) request read, arrivals_held (read_answer (state_after (requests_in entries) start) request))
event_held earlier start entries (Event.Move id attempt (Frame.RunOutcome n value is_acknowledged)) read = (tt, tt)
event_held earlier start entries (Event.Move id attempt _) read = tt
event_held earlier start entries _ read = tt

added_held : (start : StateMap) (earlier : List Event) (id : Text) (event : Event) (entries : List Entry) → IsReadIn earlier event → AreHeldEntries (entries_added start earlier id event entries)
added_held start earlier id event entries read = by_test (adds_to earlier id event)
  where
    by_test : (b : Bool) → AreHeldEntries (if b then entries_of_event start entries event else [])
    by_test true = event_held earlier start entries event read
    by_test false = tt

entries_held : (start : StateMap) (events : List Event) (id : Text) → AreRead events → AreHeldEntries (entries_from start events id)
entries_held start [] id read = tt
entries_held start (event ∷ earlier) id read =
    both_held (entries_from start earlier id) (entries_added start earlier id event (entries_from start earlier id)) (entries_held start earlier id read.1)
    (added_held start earlier id event (entries_from start earlier id) read.0)

requests_held : (entries : List Entry) → AreHeldEntries entries → AllByRecursion IsHeld (requests_in entries)
requests_held [] held = tt
requests_held (Recorded request ∷ entries) held = (held.0, requests_held entries held.1)
requests_held (Arrived arrival ∷ entries) held = requests_held entries held.1

-- where each frame that was taken is that of a message, every output that is recorded is one that a message can hold
pub outputs_held : (events : List Event) (id : Text) → AreRead events → AllByRecursion IsHeld (recorded_requests events id)
outputs_held events id read = requests_held (entries_of events id) (entries_held (starting_state events id) events id read)
