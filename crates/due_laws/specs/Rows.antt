-- The frames of an attempt's input, each by the entry that it is read from.
use Rattle.std.specs.Prelude.{filter_map, ◌≡◌, false, ℕ, ◌+◌, ◌<◌, ◌≤◌, ◌==◌, true, if◌then◌else◌, List, [], ◌∷◌, ◌++◌, length, map, take, drop, slice_get, Option, Some, None, option_map}
use Rattle.std.specs.List.{list_any}
use Rattle.protocol_types.specs.declared.message_type.MessageType.{MessageType}
use Rattle.protocol_types.specs.declared.message_type.MessageType.TheVariants.{ProposeRunCompletionAck}
use Rattle.journal_model.specs.declared.notification.NotificationId.{NotificationId}
use Rattle.journal_model.specs.declared.notification.NotificationId.TheVariants.{CompletionId}
use Rattle.journal_model.specs.Notification.{Text, Arrival}
use Rattle.journal_model.specs.State.{StateMap}
use Rattle.journal_model.specs.Spelling.{frame_bytes, notification_payload, acknowledgement_payload}
use Rattle.journal_model.specs.Event.{Event}
use Rattle.journal_model.specs.Journal.{Entry, begins, invocation_begun, version_of, starting_state, entries_from, entries_of, arrivals_in, recorded_arrivals}
use Rattle.journal_model.specs.Attempt.{Piece, begins_attempt, acknowledged, notification_type, journal_pieces, input_pieces}
use Rattle.journal_model.specs.Cause.{IsAccepted}

-- how many frames the journal had when the last attempt was begun, the input's with them, and how many arrivals
abbrev pub known_from : StateMap → List Event → Text → ℕ
known_from start [] id = 0
known_from start (event ∷ earlier) id = if begins_attempt id event then 1 + length (entries_from start earlier id) else known_from start earlier id

abbrev pub frames_known : List Event → Text → ℕ
frames_known events id = known_from (starting_state events id) events id

abbrev pub arrivals_known_from : StateMap → List Event → Text → ℕ
arrivals_known_from start [] id = 0
arrivals_known_from start (event ∷ earlier) id =
    if begins_attempt id event then length (arrivals_in (entries_from start earlier id)) else arrivals_known_from start earlier id

abbrev pub arrivals_known : List Event → Text → ℕ
arrivals_known events id = arrivals_known_from (starting_state events id) events id

-- the completions of runs whose outcomes the last attempt has proposed so that they are to be acknowledged
abbrev pub with_outcome_noted : Option ℕ → List ℕ → List ℕ
with_outcome_noted None noted = noted
with_outcome_noted (Some n) noted = n ∷ noted

abbrev pub outcomes_noted : List Event → Text → List ℕ
outcomes_noted [] id = []
outcomes_noted (event ∷ earlier) id =
    if begins_attempt id event then [] else with_outcome_noted (acknowledged (version_of earlier id) id event) (outcomes_noted earlier id)

abbrev pub noted_number : List ℕ → NotificationId → Option ℕ
noted_number noted (CompletionId n) = if list_any (λ m. m == n) noted then Some n else None
noted_number noted _ = None

-- the frame of a later arrival: that its outcome came, where it was proposed so, else a notification
abbrev pub as_told : Option ℕ → MessageType → Arrival → Piece
as_told (Some n) type arrival = record { is_arrival = true; bytes = frame_bytes ProposeRunCompletionAck (acknowledgement_payload n) }
as_told None type arrival = record { is_arrival = true; bytes = frame_bytes type (notification_payload arrival) }

abbrev pub later_piece : List Entry → List ℕ → Arrival → Piece
later_piece entries noted arrival = as_told (noted_number noted arrival.id) (notification_type entries arrival.id) arrival

-- the frames of an input: of the journal as it is, as many as it had at the begin, then one for each later arrival
pub record AreRows (events : List Event) (id : Text) : Type 0 where
  pub known : frames_known events id ≤ length (journal_pieces (invocation_begun events id) (entries_of events id))
  pub arrived : arrivals_known events id ≤ length (recorded_arrivals events id)
  pub all : input_pieces events id
      ≡ take (frames_known events id) (journal_pieces (invocation_begun events id) (entries_of events id))
      ++ map (later_piece (entries_of events id) (outcomes_noted events id)) (drop (arrivals_known events id) (recorded_arrivals events id))
  -- by their places
  pub at_begin : (k : ℕ) → k < frames_known events id
      → slice_get (input_pieces events id) k ≡ slice_get (journal_pieces (invocation_begun events id) (entries_of events id)) k
  pub behind : (k : ℕ) → slice_get (input_pieces events id) (frames_known events id + k)
      ≡ option_map (later_piece (entries_of events id) (outcomes_noted events id)) (slice_get (recorded_arrivals events id) (arrivals_known events id + k))

abbrev pub PiecesAreRows : Type 0
PiecesAreRows = (events : List Event) (id : Text) → IsAccepted events → AreRows events id

-- an event that begins no attempt leaves what was known, and adds an outcome that is to be acknowledged
pub record KnownStays (events : List Event) (event : Event) (id : Text) : Type 0 where
  pub frames : frames_known (event ∷ events) id ≡ frames_known events id
  pub arrivals : arrivals_known (event ∷ events) id ≡ arrivals_known events id
  pub noted : outcomes_noted (event ∷ events) id ≡ with_outcome_noted (acknowledged (version_of events id) id event) (outcomes_noted events id)

abbrev pub AllKnownStays : Type 0
AllKnownStays = (events : List Event) (event : Event) (id : Text) → begins id event ≡ false → begins_attempt id event ≡ false → KnownStays events event id

-- ---- the outcomes that are noted until their rows are read

-- those whose arrivals stand behind so many others, in their order
abbrev pub outcomes_unread : List Event → Text → ℕ → List ℕ
outcomes_unread events id k = filter_map (λ (arrival : Arrival). noted_number (outcomes_noted events id) arrival.id) (drop k (recorded_arrivals events id))

-- the first of them, where it is that of the id
abbrev pub first_if : NotificationId → List ℕ → Option ℕ
first_if (CompletionId n) (m ∷ rest) = if m == n then Some n else None
first_if _ _ = None

pub record OutcomesAreRead : Type 0 where
  -- none at a begin
  pub begun : (events : List Event) (event : Event) (id : Text) → begins id event ≡ false → begins_attempt id event ≡ true → (k : ℕ) → outcomes_unread (event ∷ events) id k ≡ []
  -- one that is to be acknowledged is put behind
  pub stays : (events : List Event) (event : Event) (id : Text) → IsAccepted (event ∷ events) → begins id event ≡ false → begins_attempt id event ≡ false
      → (k : ℕ) → k ≤ length (recorded_arrivals events id)
      → outcomes_unread (event ∷ events) id k ≡ outcomes_unread events id k ++ with_outcome_noted (acknowledged (version_of events id) id event) []
  -- whether the next arrival is one of them is told by the first, which goes when it is read
  pub told : (events : List Event) (id : Text) (k : ℕ) (arrival : Arrival) → slice_get (recorded_arrivals events id) k ≡ Some arrival
      → noted_number (outcomes_noted events id) arrival.id ≡ first_if arrival.id (outcomes_unread events id k)
  pub read : (events : List Event) (id : Text) (k : ℕ) (arrival : Arrival) → slice_get (recorded_arrivals events id) k ≡ Some arrival
      → outcomes_unread events id k ≡ with_outcome_noted (noted_number (outcomes_noted events id) arrival.id) (outcomes_unread events id (k + 1))
