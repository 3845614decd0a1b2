-- The messages of an attempt's input: the input, the requests of the journal, and arrivals.
use Rattle.std.specs.Prelude.{◌≡◌, ℕ, true, false, List, [], ◌∷◌, ◌++◌, map, bytes_eq}
use Rattle.protocol_types.specs.declared.message_type.MessageType.{MessageType}
use Rattle.protocol_types.specs.declared.message_type.MessageType.TheVariants.{ProposeRunCompletionAck}
use Rattle.journal_model.specs.declared.invocation.NewInvocation.{NewInvocation}
use Rattle.journal_model.specs.declared.value.NonEmptyValue.{NonEmptyValue}
use Rattle.journal_model.specs.Notification.{Bytes, Text, Arrival}
use Rattle.journal_model.specs.Value.{result_of_value}
use Rattle.journal_model.specs.Request.{Request}
use Rattle.journal_model.specs.Spelling.{request_frame, input_frame, frame_bytes, notification_payload, acknowledgement_payload}
use Rattle.journal_model.specs.Event.{Event, Frame}
use Rattle.journal_model.specs.Journal.{Entry, Recorded, Arrived, completion, recorded_arrivals}
use Rattle.journal_model.specs.Attempt.{Piece, notification_type, input_pieces, input_bytes, input_left}

-- what a message carries: the input, a recorded request, or an arrival, as a notification of some type or, where the attempt has proposed
-- a run's outcome, as the acknowledgement of it
pub data InputMessage : Type 0 where
  CarriesInput : NewInvocation → InputMessage
  CarriesRequest : Request → InputMessage
  CarriesArrival : (type : MessageType) → Arrival → InputMessage
  CarriesOutcome : (number : ℕ) → NonEmptyValue → InputMessage

-- the frame of a message
abbrev pub piece_of : InputMessage → Piece
piece_of (CarriesInput new) = record { is_arrival = false; bytes = input_frame new.headers new.input }
piece_of (CarriesRequest request) = record { is_arrival = false; bytes = request_frame request }
piece_of (CarriesArrival type arrival) = record { is_arrival = true; bytes = frame_bytes type (notification_payload arrival) }
piece_of (CarriesOutcome number value) = record { is_arrival = true; bytes = frame_bytes ProposeRunCompletionAck (acknowledgement_payload number) }

-- the arrivals and requests that messages carry
abbrev pub arrival_carried : InputMessage → List Arrival
arrival_carried (CarriesArrival type arrival) = arrival ∷ []
arrival_carried (CarriesOutcome number value) = completion number (result_of_value value) ∷ []
arrival_carried _ = []

abbrev pub arrivals_carried : List InputMessage → List Arrival
arrivals_carried [] = []
arrivals_carried (message ∷ messages) = arrival_carried message ++ arrivals_carried messages

abbrev pub request_carried : InputMessage → List Request
request_carried (CarriesRequest request) = request ∷ []
request_carried _ = []

abbrev pub requests_carried : List InputMessage → List Request
requests_carried [] = []
requests_carried (message ∷ messages) = request_carried message ++ requests_carried messages

-- the message of an entry, in a journal of these entries
abbrev pub message_of : List Entry → Entry → InputMessage
message_of entries (Recorded request) = CarriesRequest request
message_of entries (Arrived arrival) = CarriesArrival (notification_type entries arrival.id) arrival

-- the messages of the last attempt's input: all recorded arrivals are among them, by place
pub record IsInput (events : List Event) (id : Text) (messages : List InputMessage) : Type 0 where
  pub pieces : input_pieces events id ≡ map piece_of messages
  pub arrivals : arrivals_carried messages ≡ recorded_arrivals events id

-- the attempt has read these messages of its input, and holds bytes of those that it has still to read
pub record HasReadMessages (events : List Event) (id : Text) (held : Bytes) (read unread : List InputMessage) : Type 0 where
  pub all : IsInput events id (read ++ unread)
  pub bytes : held ++ input_left events id ≡ input_bytes (map piece_of unread)

-- a message that one more event brings, which leaves these entries: an arrival as a notification of the type that its request has, or the
-- acknowledgement of an outcome that the event takes
abbrev pub IsBroughtBy : List Entry → Text → Event → InputMessage → Type 0
IsBroughtBy entries id event (CarriesArrival type arrival) = type ≡ notification_type entries arrival.id
IsBroughtBy entries id (Event.Move other attempt (Frame.RunOutcome taken outcome true)) (CarriesOutcome number value) =
    (bytes_eq other id ≡ true) × (taken ≡ number) × (outcome ≡ value)
IsBroughtBy entries id event _ = ⊥
