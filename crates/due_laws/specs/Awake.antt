-- What is kept of an invocation so that it is known, without its journal, whether it is due.
pub use Rattle.due_laws.specs.AwakeNotes.{arrivals_heard, heard_at, heard_in, or_kept, heard_of, or_zero, not_heard, is_awake_kept, Noted, noted_of}
use Rattle.std.specs.Prelude.{◌≡◌, ◌≢◌, ℕ, ◌+◌, Bool, true, false, ◌&&◌, ◌||◌, if◌then◌else◌, List, [], ◌∷◌, ◌++◌, length, drop, Option, Some, None, bytes_eq}
use Rattle.journal_model.specs.Notification.{Text, Arrival, cancel_id}
use Rattle.journal_model.specs.declared.notification.NotificationResult.{NotificationResult}
use Rattle.journal_model.specs.declared.invocation.NewInvocation.{NewInvocation}
use Rattle.journal_model.specs.Request.{Request}
use Rattle.journal_model.specs.Event.{Suspension, Frame, Event}
use Rattle.journal_model.specs.Journal.{invoked_by, is_of, is_tick, completion, id_of_signal, version_of, closes, is_open, slept, entries_of, recorded_arrivals}
use Rattle.journal_model.specs.Attempt.{is_none, live_attempt, suspension_of, is_woken, is_due}
use Rattle.journal_model.specs.Cause.{causes_of, IsAccepted, after_asking, after_open}

-- an invocation is due where it has the flag and no attempt of it is live
abbrev pub AwakeIsDue : Type 0
AwakeIsDue = (events : List Event) (id : Text) → IsAccepted events → is_due events id ≡ (is_awake_kept events id && is_none (live_attempt events id))

-- what wakes a suspension wakes it with whatever comes behind
abbrev pub AwakeGrows : Type 0
AwakeGrows = (arrivals more : List Arrival) (suspension : Option Suspension) → is_woken arrivals suspension ≡ true → is_woken (arrivals ++ more) suspension ≡ true

-- no more was handed to an attempt than has come
abbrev pub HeardIsWithin : Type 0
HeardIsWithin = (events : List Event) (id : Text) → IsAccepted events → (more : List Arrival)
    → drop (or_zero (heard_of events id)) (recorded_arrivals events id ++ more) ≡ not_heard events id ++ more

-- ---- step by step

-- of an invocation that was just begun
abbrev pub begun_noted : Noted
begun_noted = record { heard = None; arrivals = 0; is_awake = true }

-- after arrivals
abbrev pub after_arrivals : List Event → Text → List Arrival → Noted → Noted
after_arrivals events id new p = record p {
  arrivals = p.arrivals + length new;
  is_awake = p.is_awake || is_woken (not_heard events id ++ new) (suspension_of events id);
}

-- how many answers the store adds to a request at once
abbrev pub answers_at_once : Request → ℕ
answers_at_once (Request.GetLazyState key n name) = 1
answers_at_once (Request.GetLazyStateKeys n name) = 1
answers_at_once _ = 0

-- after a frame of the live attempt
abbrev pub noted_after_frame : List Event → Text → Frame → Noted → Noted
noted_after_frame events id (Frame.Command request) p = record p { arrivals = p.arrivals + answers_at_once request }
noted_after_frame events id (Frame.RunOutcome n value is_acknowledged) p = record p { arrivals = p.arrivals + 1 }
noted_after_frame events id (Frame.Suspend suspension) p = record p {
  heard = Some (arrivals_heard events id);
  is_awake = is_woken (drop (arrivals_heard events id) (recorded_arrivals events id)) suspension;
}
noted_after_frame events id (Frame.Error code message behavior delay) p = record p {
  is_awake = if closes (version_of events id) (Frame.Error code message behavior delay) then false else p.is_awake;
}
noted_after_frame events id Frame.End p = record p { heard = Some (arrivals_heard events id); is_awake = false }
noted_after_frame events id _ p = p

-- after an event of the invocation
abbrev pub after_event : List Event → Text → Event → Noted → Noted
after_event events id (Event.Result other n result) p = after_arrivals events id (completion n result ∷ []) p
after_event events id (Event.Signal other key result) p = after_arrivals events id (record { id = id_of_signal key; result = result } ∷ []) p
after_event events id (Event.Cancel other) p = after_arrivals events id (record { id = cancel_id; result = NotificationResult.Void } ∷ []) p
after_event events id (Event.Begin other now) p = record p { heard = None; is_awake = true }
after_event events id (Event.Move other attempt frame) p = noted_after_frame events id frame p
after_event events id _ p = p

-- events by which nothing is told of an invocation
abbrev pub is_quiet : Frame → Bool
is_quiet (Frame.AwaitingOn awaited) = true
is_quiet Frame.Broken = true
is_quiet Frame.TooDeep = true
is_quiet Frame.NotAccepted = true
is_quiet _ = false

abbrev pub is_still : Event → Bool
is_still (Event.Feed id attempt most) = true
is_still (Event.Close id attempt) = true
is_still (Event.Stop id attempt) = true
is_still (Event.Move id attempt frame) = is_quiet frame
is_still _ = false

abbrev pub NotedInvoked : Type 0
NotedInvoked = (events : List Event) (new : NewInvocation) (id : Text) → IsAccepted (Event.Invoke new ∷ events) → bytes_eq new.id id ≡ true
    → noted_of (Event.Invoke new ∷ events) id ≡ begun_noted

abbrev pub NotedFollows : Type 0
NotedFollows = (events : List Event) (event : Event) (id : Text) → IsAccepted (event ∷ events) → is_of id event ≡ true → invoked_by event ≡ None
    → noted_of (event ∷ events) id ≡ after_event events id event (noted_of events id)

-- a tick brings an open invocation arrivals, and changes nothing where it brings none, or the invocation is not open
abbrev pub NotedTicks : Type 0
NotedTicks = (events : List Event) (now : ℕ) (id : Text) → IsAccepted events → is_open events id ≡ true
    → noted_of (Event.Tick now ∷ events) id ≡ after_arrivals events id (slept (entries_of events id) now) (noted_of events id)

abbrev pub NotedUnticked : Type 0
NotedUnticked = (events : List Event) (now : ℕ) (id : Text) → IsAccepted events → (is_open events id ≡ true → slept (entries_of events id) now ≡ [])
    → noted_of (Event.Tick now ∷ events) id ≡ noted_of events id

-- an event of another invocation, and one by which nothing is told, change nothing, whether they are accepted or not
abbrev pub NotedElsewhere : Type 0
NotedElsewhere = (events : List Event) (event : Event) (id : Text) → is_of id event ≡ false → is_tick event ≡ false → noted_of (event ∷ events) id ≡ noted_of events id

abbrev pub NotedStill : Type 0
NotedStill = (events : List Event) (event : Event) (id : Text) → is_still event ≡ true → noted_of (event ∷ events) id ≡ noted_of events id

-- an event that is refused changes nothing, though its frame may stop its attempt
abbrev pub NotedRefused : Type 0
NotedRefused = (events : List Event) (event : Event) (id : Text) → causes_of events event ≢ [] → noted_of (after_asking events event) id ≡ noted_of events id

-- nor do the stops of what was live when a store is opened again
abbrev pub NotedOpened : Type 0
NotedOpened = (events : List Event) (id : Text) → noted_of (after_open events) id ≡ noted_of events id

-- while an attempt is live its invocation has the flag; so frames that do not end it, and arrivals, leave it
abbrev pub LiveIsAwake : Type 0
LiveIsAwake = (events : List Event) (id : Text) (attempt : ℕ) → IsAccepted events → live_attempt events id ≡ Some attempt
    → (is_awake_kept events id ≡ true) × (suspension_of events id ≡ None) × (heard_of events id ≡ None)
