-- What the live attempt was begun with, and which messages its input has.
use Rattle.std.specs.Prelude.{◌≡◌, ◌+◌, ℕ, true, false, List, [], ◌∷◌, ◌++◌, length, map, Some}
use Rattle.std.specs.List.{AllByRecursion}
use Rattle.protocol_types.specs.declared.message_type.MessageType.TheVariants.{Start}
use Rattle.journal_model.specs.declared.invocation.NewInvocation.{NewInvocation}
use Rattle.journal_model.specs.declared.value.NonEmptyValue.{NonEmptyValue}
use Rattle.journal_model.specs.Notification.{Bytes, Text}
use Rattle.journal_model.specs.State.{state_after}
use Rattle.journal_model.specs.Spelling.{frame_bytes}
use Rattle.journal_model.specs.Start.{attempts_since_entry, since_first, start_payload_of}
use Rattle.journal_model.specs.Event.{Event, Frame}
use Rattle.journal_model.specs.Journal.{Entry, begins, invocation_begun, entries_of, starting_state}
use Rattle.journal_model.specs.Attempt.{begins_attempt, notification_type}
use Rattle.input_laws.specs.Message.{InputMessage, CarriesInput, CarriesArrival, CarriesOutcome, requests_carried, message_of}

-- the last attempt of an invocation was begun at this moment, after these earlier events
pub data IsBegunAfter (id : Text) (earlier : List Event) (now : ℕ) : List Event → Type 0 where
  begun_last : IsBegunAfter id earlier now (Event.Begin id now ∷ earlier)
  begun_earlier : {events : List Event} (event : Event) → begins id event ≡ false → begins_attempt id event ≡ false → IsBegunAfter id earlier now events
      → IsBegunAfter id earlier now (event ∷ events)

-- the messages of the journal of an attempt that is begun after these events
abbrev pub journal_after : List Event → Text → List InputMessage
journal_after earlier id = map (message_of (entries_of earlier id)) (entries_of earlier id)

-- what the last attempt was begun with: the invocation, the messages of its journal, and a start frame that says how many these are with the
-- input, what their requests have made of the object's state, and how often, and since when, an attempt was begun since the last entry
pub record BegunWith (events : List Event) (id : Text) (new : NewInvocation) (journal : List InputMessage) (start : Bytes) : Type 0 where
  pub earlier : List Event
  pub now : ℕ
  pub begun : IsBegunAfter id earlier now events
  pub new_is : invocation_begun earlier id ≡ Some new
  pub journal_is : journal ≡ journal_after earlier id
  pub start_is : start ≡ frame_bytes Start
      (start_payload_of new (state_after (requests_carried journal) (starting_state earlier id)) (1 + length journal)
      (length (attempts_since_entry earlier id)) (since_first (attempts_since_entry earlier id) now))

-- the outcomes of runs that frames propose, and are to be acknowledged
abbrev pub proposals_in : List Frame → List (ℕ × NonEmptyValue)
proposals_in [] = []
proposals_in (Frame.RunOutcome number value true ∷ frames) = (number, value) ∷ proposals_in frames
proposals_in (frame ∷ frames) = proposals_in frames

-- an outcome that is among those that the attempt has proposed
pub record IsProposed (proposed : List (ℕ × NonEmptyValue)) (outcome : ℕ × NonEmptyValue) : Type 0 where
  pub before : List (ℕ × NonEmptyValue)
  pub behind : List (ℕ × NonEmptyValue)
  pub parts : proposed ≡ before ++ outcome ∷ behind

-- a message behind the journal: an arrival, as a notification of the type of its request among the first of these entries, or the
-- acknowledgement of an outcome that the attempt has proposed
abbrev pub IsLater : List Entry → List (ℕ × NonEmptyValue) → InputMessage → Type 0
IsLater entries proposed (CarriesArrival type arrival) =
    (some : List Entry) × (more : List Entry) × (entries ≡ some ++ more) × (type ≡ notification_type some arrival.id)
IsLater entries proposed (CarriesOutcome number value) = IsProposed proposed (number, value)
IsLater entries proposed _ = ⊥

-- the messages of the live attempt's input: the invocation's input, the journal, and later ones; what is on its way was proposed
pub record HasInput (events : List Event) (id : Text) (coming : List Frame) (proposed : List (ℕ × NonEmptyValue)) (new : NewInvocation) (journal messages : List InputMessage) : Type 0 where
  pub later : List InputMessage
  pub parts : messages ≡ CarriesInput new ∷ (journal ++ later)
  pub later_are : AllByRecursion (IsLater (entries_of events id) proposed) later
  pub coming_are : AllByRecursion (IsProposed proposed) (proposals_in coming)
