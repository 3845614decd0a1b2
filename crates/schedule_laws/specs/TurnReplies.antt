-- What each reply to a turn says of the run, and what is moved, of an attempt that is live, that was stopped, or that was overtaken.
use Rattle.std.specs.Prelude.{◌≡◌, ℕ, ◌==◌, ◌&&◌, Bool, true, false, List, [], ◌∷◌, ◌++◌, Some, bytes_eq}
use Rattle.std.specs.List.{AllByRecursion}
use Rattle.journal_model.specs.declared.invocation.NewInvocation.{NewInvocation}
use Rattle.journal_model.specs.Notification.{Bytes, Text}
use Rattle.journal_model.specs.Event as model
use Rattle.journal_model.specs.Journal.{invocation_begun}
use Rattle.journal_model.specs.Run.{Handler}
use Rattle.live_laws.specs.StartFrame.{AttemptStart, start_after}
use Rattle.vm_types.specs.Options.{run_options}
use Rattle.vm_types.specs.declared.options.VMOptions.{VMOptions}
pub use Rattle.vm_attempt_laws.specs.TurnReports.{Told, told_nothing, IsAgain, IsFrameTold, TurnTellsNow}
use Rattle.schedule_laws.specs.Schedules.event
use Rattle.schedule_laws.specs.Schedules.reply
use Rattle.schedule_laws.specs.Schedules.{Event, Reply}
use Rattle.schedule_laws.specs.WrittenFrames.{WaitsBehind, is_at_attempt}

-- ---- of one attempt

-- What is told of the attempt behind one more event, by its reply: a turn tells where its run stands, it is told that no more of its input comes,
-- and these bytes of it were fed. Whether the event is its own is said by a number of it.
abbrev pub TellsAttempt : {H : Type 0} → Handler → AttemptStart → (is_own : Bool) → Event H → Reply → (bytes : Bytes) → (told now : Told) → Type 0
TellsAttempt next start true (event.Turn id number ran) (reply.Turned turn) bytes told now = TurnTellsNow next start told told.over ran turn now
TellsAttempt next start true (event.Close id number) reply.Done bytes told now = now ≡ record told { is_closed = true }
TellsAttempt next start true (event.Feed id number count) (reply.Fed fed why) bytes told now = now ≡ record told { bytes = told.bytes ++ bytes }
TellsAttempt next start is_own one answer bytes told now = now ≡ told

-- whether an event of a schedule is done with this attempt
abbrev pub is_of_attempt : {H : Type 0} → Text → ℕ → Event H → Bool
is_of_attempt id number (event.Turn other n ran) = bytes_eq other id && (n == number)
is_of_attempt id number (event.Close other n) = bytes_eq other id && (n == number)
is_of_attempt id number (event.Feed other n count) = bytes_eq other id && (n == number)
is_of_attempt id number one = false

-- an accepted event is a frame that says what was told of its attempt, if it is a frame
abbrev pub IsTakenAsTold : Told → model.Event → Type 0
IsTakenAsTold told (model.Event.Move id attempt frame) = IsFrameTold told frame
IsTakenAsTold told event = Unit {0}

-- Of the frames of the attempt that an event moves to the store each says what was told by then: an outcome of a run is one that a turn was
-- given that has executed the body of that run; an error is the one by which a turn has failed, and none closes the invocation.
abbrev pub TakesAsTold : {H : Type 0} → Text → ℕ → Event H → Reply → (added : List model.Event) → Told → Type 0
TakesAsTold id number (event.Move other attempt count) (reply.Moved bytes frames why) added told = other ≡ id → attempt ≡ number → AllByRecursion (IsTakenAsTold told) added
TakesAsTold id number one answer added told = Unit {0}

-- So it is of each event behind its begin; and these bytes of it wait to be moved.
abbrev pub TurnsTellEach : {H : Type 0} → Handler → AttemptStart → Text → ℕ → List (Event H) → List Reply → (added : List (List model.Event)) → (handed moved : List Bytes) → Told → (waits : Bytes) → Type 0
TurnsTellEach next start id number (one ∷ events) (answer ∷ replies) (some ∷ added) (bytes ∷ handed) (gone ∷ moved) told waits =
    (now : Told) × (behind : Bytes) × TellsAttempt next start (is_of_attempt id number one) one answer bytes told now × TakesAsTold id number one answer some told
    × WaitsBehind next start (is_at_attempt id number one) one answer gone told waits behind × TurnsTellEach next start id number events replies added handed moved now behind
TurnsTellEach next start id number events replies added handed moved told waits = Unit {0}

-- ---- of each attempt

-- as the last attempt of an invocation is begun, behind these accepted events
abbrev pub attempt_start_of : VMOptions → Text → List model.Event → (now : ℕ) → NewInvocation → AttemptStart
attempt_start_of options id earlier now new = start_after (run_options options) options.fallback_random_seed earlier id now new

-- of an attempt that has begun so it was told that it was handed its start frame
abbrev pub told_start : AttemptStart → Told
told_start start = record (told_nothing start.new.version) { bytes = start.frame }

-- What the replies behind a begin tell of the attempt that it has begun, behind these accepted events. Nothing of it waits then to be moved.
abbrev pub BegunTells : {H : Type 0} → Handler → VMOptions → Text → Event H → Reply → (bytes : Bytes) → (events : List (Event H)) → List Reply → (added : List (List model.Event)) → (handed moved : List Bytes)
    → (earlier : List model.Event) → Type 0
BegunTells next options id (event.Begin other handler now) (reply.Begun number) bytes events replies added handed moved earlier =
    other ≡ id → (new : NewInvocation) → invocation_begun earlier id ≡ Some new
    → (bytes ≡ (attempt_start_of options id earlier now new).frame)
    × TurnsTellEach next (attempt_start_of options id earlier now new) id number events replies added handed moved (told_start (attempt_start_of options id earlier now new)) []
BegunTells next options id one answer bytes events replies added handed moved earlier = Unit {0}

-- So it is of each begin of the invocation, where each event has added these to the accepted events.
abbrev pub EachBegunTells : {H : Type 0} → Handler → VMOptions → Text → List (Event H) → List Reply → (added : List (List model.Event)) → (handed moved : List Bytes) → (earlier : List model.Event) → Type 0
EachBegunTells next options id (one ∷ events) (answer ∷ replies) (some ∷ added) (bytes ∷ handed) (gone ∷ moved) earlier =
    BegunTells next options id one answer bytes events replies added handed moved earlier × EachBegunTells next options id events replies added handed moved (some ++ earlier)
EachBegunTells next options id events replies added handed moved earlier = Unit {0}
