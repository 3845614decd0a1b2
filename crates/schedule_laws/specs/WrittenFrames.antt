-- What an attempt writes, frame by frame, how the first bytes of that go to the store, and which frames a store takes of these.
use Rattle.std.specs.Prelude.{◌≡◌, ◌⊎◌, ℕ, suc, pred, min, ◌==◌, ◌&&◌, Bool, true, false, List, [], ◌∷◌, ◌++◌, length, map, take, drop, Option, Some, None, bytes_eq}
use Rattle.journal_model.specs.Notification.{Arrival, Bytes, Text}
use Rattle.journal_model.specs.Event.{Suspension, Frame}
use Rattle.journal_model.specs.Request.{Request}
use Rattle.journal_model.specs.Run.{Handler, run_requests}
use Rattle.input_laws.specs.Message.{requests_carried}
use Rattle.live_laws.specs.RequestsInFlight.{SendsOfRun}
use Rattle.live_laws.specs.StartFrame.{AttemptStart}
use Rattle.protocol_errors.specs.declared.error.Error.{Error}
use Rattle.protocol_stream.specs.Item.{Item, item_at}
use Rattle.store_calls.specs.Frames.{frame_in}
use Rattle.vm_start.specs.FailureReport.{out_of_memory}
use Rattle.vm_attempt_laws.specs.AttemptInvariants.{error_told}
use Rattle.vm_attempt_laws.specs.Bodies.{Body, NonEmptyValue, RunOutcome, outcome_frame}
use Rattle.vm_attempt_laws.specs.ArrivalsCome.{HasJournal}
use Rattle.vm_attempt_laws.specs.TurnReports.{FailsEarly, Told, arrivals_told, ProposesOutcomeOf}
use Rattle.vm_attempt_laws.specs.TurnsInRun.{TellsAwaited}
use Rattle.schedule_laws.specs.Attempts.{output_of, Turn}
use Rattle.schedule_laws.specs.Schedules.event
use Rattle.schedule_laws.specs.Schedules.reply
use Rattle.schedule_laws.specs.Schedules.{Event, Reply, HeldAttempt, held_of}

-- ---- frames in bytes

-- The first whole items of these bytes are these frames of an attempt of this version, one behind the other, and this is the rest.
abbrev pub AreFrames : (version : ℕ) → Bytes → List Frame → (rest : Bytes) → Type 0
AreFrames version bytes [] rest = rest ≡ bytes
AreFrames version bytes (frame ∷ frames) rest =
    (item : Item) × (behind : Bytes) × (item_at bytes ≡ Some (item, behind)) × (frame ≡ frame_in version item) × AreFrames version behind frames rest

-- behind the bytes that wait to be moved these whole frames are written, and nothing else
pub record WritesFrames (version : ℕ) (frames : List Frame) (waits behind : Bytes) : Type 0 where
  pub bytes : Bytes
  pub behind_is : behind ≡ waits ++ bytes
  pub are : AreFrames version bytes frames []

-- ---- the frames that a turn writes

-- by these arrivals, which have come whole to an attempt that was begun so
module _ (next : Handler) (start : AttemptStart) (told : Told) (arrivals : List Arrival) where
  -- What the run has asked for over these arrivals, with as many calls as this many answered turns have answered, behind the requests of its
  -- journal: these an attempt has written by then.
  abbrev pub requests_written : (answered : ℕ) → List Request
  requests_written answered = drop (length (requests_carried start.journal)) (run_requests next start.given arrivals (pred answered))

  -- a turn that fails writes the frame of the error that it tells, behind the requests by which a cancellation was passed on by then, and nothing else; none
  -- where there was no memory, or where that was written as the input was closed before the journal had come
  abbrev pub WritesError : Error → List Frame → Type 0
  WritesError error frames =
      (error ≡ out_of_memory)
      ⊎ (((told.is_closed ≡ true) × (HasJournal start told.bytes → ⊥)) ⊎ ((more : List Request) × (frames ≡ map Frame.Command more ++ error_told start.new.version error ∷ [])))

  -- By what is answered it writes these frames, and no other: the requests by which the run goes on; the outcome of the body that was executed;
  -- nothing, or what the run waits for; the suspension; the end; or the error.
  abbrev pub TurnWritesOver : RunOutcome → Turn → List Frame → Type 0
  TurnWritesOver ran Turn.Answered frames =
      (more : List Request) × (requests_written told.answered ++ more ≡ requests_written (suc told.answered)) × (frames ≡ map Frame.Command more)
  TurnWritesOver ran Turn.RanBody frames =
      (body : Body) × (value : NonEmptyValue) × ProposesOutcomeOf next start told arrivals ran body value × (frames ≡ outcome_frame start.new.version body.completion value ∷ [])
  TurnWritesOver ran Turn.Waiting frames = TellsAwaited next start.given arrivals (requests_carried start.journal ++ requests_written told.answered) frames
  TurnWritesOver ran Turn.Suspended frames = (suspension : Suspension) × (frames ≡ Frame.Suspend (Some suspension) ∷ [])
  TurnWritesOver ran Turn.Ended frames = frames ≡ Frame.End ∷ []
  TurnWritesOver ran (Turn.Failed error) frames = WritesError error frames

  -- And each is one of the run, behind all that was asked for by then: a suspension tells what the run waits for with just these requests, and
  -- the requests of a turn that fails are a beginning of the run's.
  abbrev pub TurnWritesBy : RunOutcome → Turn → List Frame → Type 0
  TurnWritesBy ran turn frames =
      SendsOfRun next start.given arrivals told.is_closed (requests_carried start.journal ++ requests_written told.answered) frames × TurnWritesOver ran turn frames

-- by what was told of it
abbrev pub TurnWrites : Handler → AttemptStart → Told → RunOutcome → Turn → List Frame → Type 0
TurnWrites next start told ran turn frames = TurnWritesBy next start told (arrivals_told start told) ran turn frames

-- ---- what waits of an attempt to be moved

-- a turn of an attempt that is over writes nothing, nor does one of an attempt to which memory was refused as its input came
abbrev pub TurnLeaves : Handler → AttemptStart → (told : Told) → (over : Option Turn) → RunOutcome → Turn → (waits behind : Bytes) → Type 0
TurnLeaves next start told (Some last) ran turn waits behind = behind ≡ waits
TurnLeaves next start told None ran turn waits behind =
    ((turn ≡ Turn.Failed out_of_memory) × (behind ≡ waits))
    ⊎ ((frames : List Frame) × WritesFrames start.new.version frames waits behind × TurnWrites next start told ran turn frames)

-- where its input is closed it writes nothing, or the frame of the error by which it fails so
abbrev pub CloseLeaves : AttemptStart → (waits behind : Bytes) → Type 0
CloseLeaves start waits behind = (behind ≡ waits) ⊎ ((error : Error) × FailsEarly error × WritesFrames start.new.version (error_told start.new.version error ∷ []) waits behind)

-- What waits of an attempt behind one more event, by its reply, which moves these bytes of it: a turn and the end of its input write frames behind
-- it; and a move takes the first bytes of it, as many as were asked for, or all there are. Whether the event is its own is said by a number of
-- it.
abbrev pub WaitsBehind : {H : Type 0} → Handler → AttemptStart → (is_own : Bool) → Event H → Reply → (moved : Bytes) → Told → (waits behind : Bytes) → Type 0
WaitsBehind next start true (event.Turn id number ran) (reply.Turned turn) moved told waits behind = TurnLeaves next start told told.over ran turn waits behind
WaitsBehind next start true (event.Close id number) reply.Done moved told waits behind = CloseLeaves start waits behind
WaitsBehind next start true (event.Move id number count) (reply.Moved bytes frames why) moved told waits behind =
    (bytes ≡ min count (length waits)) × (moved ≡ take bytes waits) × (behind ≡ drop bytes waits)
WaitsBehind next start is_own one answer moved told waits behind = behind ≡ waits

-- whether an event of a schedule names this attempt, and may change what waits of it
abbrev pub is_at_attempt : {H : Type 0} → Text → ℕ → Event H → Bool
is_at_attempt id number (event.Turn other n ran) = bytes_eq other id && (n == number)
is_at_attempt id number (event.Close other n) = bytes_eq other id && (n == number)
is_at_attempt id number (event.Move other n count) = bytes_eq other id && (n == number)
is_at_attempt id number one = false

-- ---- of the attempts that are held

module _ {H : Type 0} where
  -- the bytes that an event moves: the first of those that wait of the attempt that it names, as many as its reply tells
  abbrev pub MovesBytes : Event H → Reply → (moved : Bytes) → List (HeldAttempt H) → Type 0
  MovesBytes (event.Move id number count) (reply.Moved bytes frames why) moved held = (one : HeldAttempt H) × (held_of held id number ≡ Some one) × (moved ≡ take bytes (output_of one.attempt))
  MovesBytes one answer moved held = moved ≡ []

  -- of one that is held, and so begun that this was told of it
  abbrev pub LeavesHeld : Handler → Text → (number : ℕ) → AttemptStart → Told → Event H → Reply → (moved : Bytes) → (held more : List (HeldAttempt H)) → Type 0
  LeavesHeld next id number start told one answer moved held more =
      (before : HeldAttempt H) → held_of held id number ≡ Some before
      → (after : HeldAttempt H) × (held_of more id number ≡ Some after) × WaitsBehind next start (is_at_attempt id number one) one answer moved told (output_of before.attempt) (output_of after.attempt)

  -- nothing waits of one that is begun
  abbrev pub BeginsUnwritten : Text → Event H → Reply → (more : List (HeldAttempt H)) → Type 0
  BeginsUnwritten id (event.Begin other handler now) (reply.Begun number) more = other ≡ id → (one : HeldAttempt H) × (held_of more id number ≡ Some one) × (output_of one.attempt ≡ [])
  BeginsUnwritten id one answer more = Unit {0}
