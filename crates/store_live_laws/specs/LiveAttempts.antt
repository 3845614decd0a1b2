-- What is kept of the live attempts is what the accepted events say.
use Rattle.std.specs.Prelude.{◌≡◌, ℕ, ◌+◌, ◌==◌, Bool, true, false, not, if◌then◌else◌, List, [], ◌∷◌, length, take, Option, Some, None, is_some, option_map}
use Rattle.journal_model.specs.Notification.{Bytes, Text}
use Rattle.journal_model.specs.declared.value.NonEmptyValue.{NonEmptyValue}
use Rattle.journal_model.specs.declared.invocation.NewInvocation.{NewInvocation}
use Rattle.journal_model.specs.Event.{Frame, Event}
use Rattle.journal_model.specs.Journal.{is_of, is_tick, version_of, invocation_begun, is_open, entries_of, recorded_arrivals, ends_attempt}
use Rattle.journal_model.specs.Attempt.{attempts_begun, live_attempt, is_live, is_input_closed, input_left, acknowledged}
use Rattle.journal_model.specs.Cause.{is_empty, those_that_hold, causes_of, IsAccepted}
use Rattle.journal_laws.specs.Forgetting.{is_among, without_all}
use Rattle.journal_model.specs.declared.cause.Cause.{Cause}
use Rattle.journal_model.specs.declared.cause.Cause.TheVariants.{UnknownInvocation, InvocationClosed, AttemptNotLive, InputRemains, InputAlreadyClosed}
use Rattle.protocol_types.specs.Feature.{has_feature}
use Rattle.protocol_types.specs.Version.{version_number}
use Rattle.protocol_types.specs.declared.feature.Feature.TheVariants.{Acknowledgement}
use Rattle.due_laws.specs.InputParts.{HandsPart}
use Rattle.store_tables.specs.declared.row.EntryRow.{EntryRow}
use Rattle.store_live.specs.declared.attempt.LiveAttempt.{LiveAttempt}
use Rattle.store_live.specs.ChangedRoom.{IsAsBefore}
use Rattle.store_live.specs.Input.{at_begin, next_row}
use Rattle.store_live.specs.Attempts.{after_close, live_after_frame, after_hand_out, after_outcome, bytes_out}
use Rattle.store_live_laws.specs.Memory.{IsInputOf, frame_read, row_asked}

-- an attempt is kept as the live one of an invocation; of its output the events say nothing
pub record IsKeptLive (events : List Event) (id : Text) (attempt : LiveAttempt) : Type 0 where
  pub number : live_attempt events id ≡ Some attempt.number
  pub version : version_number attempt.version ≡ version_of events id
  pub input : IsInputOf events id attempt.input
  pub closed : attempt.is_input_closed ≡ is_input_closed events id

abbrev pub Agrees : List Event → Text → Option LiveAttempt → Type 0
Agrees events id None = live_attempt events id ≡ None
Agrees events id (Some attempt) = IsKeptLive events id attempt

-- ---- step by step

abbrev pub AgreesAtFirst : Type 0
AgreesAtFirst = (id : Text) → Agrees [] id None

-- an event of another invocation changes nothing
abbrev pub AgreesElsewhere : Type 0
AgreesElsewhere = (events : List Event) (event : Event) (id : Text) (attempt : Option LiveAttempt) → IsAccepted (event ∷ events) → is_of id event ≡ false → is_tick event ≡ false
    → Agrees events id attempt → Agrees (event ∷ events) id attempt

-- nor does it that others are forgotten
abbrev pub AgreesForgotten : Type 0
AgreesForgotten = (events : List Event) (ids : List Text) (id : Text) (attempt : Option LiveAttempt) → is_among ids id ≡ false → Agrees events id attempt → Agrees (without_all ids events) id attempt

-- an invocation that is new has no live attempt
abbrev pub AgreesInvoked : Type 0
AgreesInvoked = (events : List Event) (new : NewInvocation) → IsAccepted events → causes_of events (Event.Invoke new) ≡ []
    → Agrees events new.id None × Agrees (Event.Invoke new ∷ events) new.id None

-- of an attempt that is begun nothing is kept but how many entries and arrivals are recorded then
pub record IsBegunAs (events : List Event) (id : Text) (attempt : LiveAttempt) : Type 0 where
  pub number : attempt.number ≡ 1 + attempts_begun events id
  pub version : version_number attempt.version ≡ version_of events id
  pub input : attempt.input ≡ at_begin (1 + length (entries_of events id)) (length (recorded_arrivals events id))
  pub closed : attempt.is_input_closed ≡ false

abbrev pub AgreesBegun : Type 0
AgreesBegun = (events : List Event) (id : Text) (now : ℕ) (attempt : LiveAttempt) → IsBegunAs events id attempt → Agrees (Event.Begin id now ∷ events) id (Some attempt)

-- what is recorded of any invocation: what comes from outside, a tick, and a frame that does not end its attempt
abbrev pub does_record : Event → Bool
does_record (Event.Result id n result) = true
does_record (Event.Signal id key result) = true
does_record (Event.Cancel id) = true
does_record (Event.Tick now) = true
does_record (Event.Move id number frame) = not (ends_attempt frame)
does_record _ = false

-- that leaves what is kept, unless it is the outcome of a run that is to be acknowledged
abbrev pub AgreesRecorded : Type 0
AgreesRecorded = (events : List Event) (event : Event) (id : Text) (attempt : Option LiveAttempt) → IsAccepted (event ∷ events) → does_record event ≡ true
    → acknowledged (version_of events id) id event ≡ None → Agrees events id attempt → Agrees (event ∷ events) id attempt

abbrev pub AgreesAcknowledged : Type 0
AgreesAcknowledged = (events : List Event) (id : Text) (number n : ℕ) (value : NonEmptyValue) (attempt : Option LiveAttempt)
    → IsAccepted (Event.Move id number (Frame.RunOutcome n value true) ∷ events) → has_feature (version_of events id) Acknowledgement ≡ true
    → Agrees events id attempt → Agrees (Event.Move id number (Frame.RunOutcome n value true) ∷ events) id (option_map (after_outcome n) attempt)

-- room for that is not told
abbrev pub AgreesAsBefore : Type 0
AgreesAsBefore = (events : List Event) (id : Text) (old new : Option LiveAttempt) → IsAsBefore old new → Agrees events id old → Agrees events id new

-- the next row is read, once all before it was handed out
abbrev pub AgreesRead : Type 0
AgreesRead = (events : List Event) (id : Text) (row : EntryRow) (attempt : LiveAttempt) → IsAccepted events → attempt.input.rest ≡ []
    → row_asked events id (next_row attempt.input) ≡ Some row → Agrees events id (Some attempt)
    → Agrees events id (Some (live_after_frame (frame_read attempt.input.unread (next_row attempt.input) row) attempt))

-- bytes are handed out, and the event says how many they were
abbrev pub AgreesHandedOut : Type 0
AgreesHandedOut = (events : List Event) (id : Text) (number most : ℕ) (attempt : Option LiveAttempt) → IsAccepted (Event.Feed id number (length (bytes_out most attempt)) ∷ events)
    → Agrees events id attempt → Agrees (Event.Feed id number (length (bytes_out most attempt)) ∷ events) id (option_map (after_hand_out most) attempt)

abbrev pub AgreesClosed : Type 0
AgreesClosed = (events : List Event) (id : Text) (number : ℕ) (attempt : Option LiveAttempt) → IsAccepted (Event.Close id number ∷ events)
    → Agrees events id attempt → Agrees (Event.Close id number ∷ events) id (option_map after_close attempt)

abbrev pub AgreesEnded : Type 0
AgreesEnded = (events : List Event) (id : Text) (number : ℕ) (frame : Frame) → ends_attempt frame ≡ true → Agrees (Event.Move id number frame ∷ events) id None

abbrev pub AgreesStopped : Type 0
AgreesStopped = (events : List Event) (id : Text) (number : ℕ) → Agrees (Event.Stop id number ∷ events) id None

-- what is handed to an attempt: its rows are read, bytes of them are handed out, and the input is closed
pub record KeepsInput : Type 0 where
  pub read : AgreesRead
  pub handed_out : AgreesHandedOut
  pub closed : AgreesClosed

-- what is recorded; room is made for what is to be acknowledged
pub record KeepsRecorded : Type 0 where
  pub recorded : AgreesRecorded
  pub acknowledged : AgreesAcknowledged
  pub as_before : AgreesAsBefore

-- an attempt is over
pub record KeepsEnded : Type 0 where
  pub ended : AgreesEnded
  pub stopped : AgreesStopped

-- ---- what it tells

abbrev pub has_number : ℕ → Option LiveAttempt → Bool
has_number number None = false
has_number number (Some attempt) = attempt.number == number

abbrev pub LiveIsTold : Type 0
LiveIsTold = (events : List Event) (id : Text) (number : ℕ) (attempt : Option LiveAttempt)
    → Agrees events id attempt → is_live events id number ≡ has_number number attempt

-- the invocation of a live attempt is open
abbrev pub LiveIsOpen : Type 0
LiveIsOpen = (events : List Event) (id : Text) (attempt : LiveAttempt) → IsAccepted events → Agrees events id (Some attempt) → is_open events id ≡ true

-- whether anything is left is told by what is left of the frame that was read last, once the next row is read where that is nothing
pub record LeftIsTold (events : List Event) (id : Text) (attempt : LiveAttempt) : Type 0 where
  pub remains : (x : ℕ) (rest : Bytes) → attempt.input.rest ≡ x ∷ rest → is_empty (input_left events id) ≡ false
  pub ends : attempt.input.rest ≡ [] → row_asked events id (next_row attempt.input) ≡ None → input_left events id ≡ []

abbrev pub AllLeftIsTold : Type 0
AllLeftIsTold = (events : List Event) (id : Text) (attempt : LiveAttempt) → IsAccepted events → Agrees events id (Some attempt) → LeftIsTold events id attempt

-- then what is handed out of it is a beginning of what is left, and none only where none was asked for or is left
abbrev pub PartIsTold : Type 0
PartIsTold = (events : List Event) (id : Text) (most : ℕ) (attempt : LiveAttempt) → Agrees events id (Some attempt)
    → (attempt.input.rest ≡ [] → input_left events id ≡ []) → HandsPart (input_left events id) most (take most attempt.input.rest)

-- the causes of the events of a live attempt
pub record CausesOfLive (events : List Event) (id : Text) (attempt : LiveAttempt) : Type 0 where
  pub of_hand_out : (most : ℕ) → causes_of events (Event.Feed id attempt.number most) ≡ those_that_hold ((attempt.is_input_closed, InputAlreadyClosed) ∷ [])
  pub of_close : causes_of events (Event.Close id attempt.number)
      ≡ those_that_hold ((not (is_empty (input_left events id)), InputRemains) ∷ (attempt.is_input_closed, InputAlreadyClosed) ∷ [])
  pub of_stop : causes_of events (Event.Stop id attempt.number) ≡ []

abbrev pub CausesAreTold : Type 0
CausesAreTold = (events : List Event) (id : Text) (attempt : LiveAttempt) → IsAccepted events → Agrees events id (Some attempt) → CausesOfLive events id attempt

-- the first cause of an event of an attempt that is not live
abbrev pub cause_of_stale : List Event → Text → Cause
cause_of_stale events id =
    if is_some (invocation_begun events id) then (if is_open events id then AttemptNotLive else InvocationClosed) else UnknownInvocation

abbrev pub IsFirstCause : Cause → List Cause → Type 0
IsFirstCause cause causes = (others : List Cause) × (causes ≡ cause ∷ others)

pub record CausesOfStale (events : List Event) (id : Text) (number : ℕ) : Type 0 where
  pub of_hand_out : (most : ℕ) → IsFirstCause (cause_of_stale events id) (causes_of events (Event.Feed id number most))
  pub of_close : IsFirstCause (cause_of_stale events id) (causes_of events (Event.Close id number))
  pub of_take : (frame : Frame) → IsFirstCause (cause_of_stale events id) (causes_of events (Event.Move id number frame))
  pub of_stop : IsFirstCause (cause_of_stale events id) (causes_of events (Event.Stop id number))

abbrev pub StaleIsTold : Type 0
StaleIsTold = (events : List Event) (id : Text) (number : ℕ) (attempt : Option LiveAttempt) → Agrees events id attempt
    → has_number number attempt ≡ false → CausesOfStale events id number
