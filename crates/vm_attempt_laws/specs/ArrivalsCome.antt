-- What has come whole to an attempt: the arrivals are one function of the bytes that it was handed and of the outcomes that it has proposed.
use Rattle.std.specs.Prelude.{◌≡◌, ℕ, ◌==◌, if◌then◌else◌, List, [], ◌∷◌, ◌++◌, map, length, drop, Result, Ok, Err}
use Rattle.journal_model.specs.Value.{result_of_value}
use Rattle.protocol_wire.specs.Fields.{fields}
use Rattle.protocol_wire.specs.Items.{items}
use Rattle.protocol_wire.specs.declared.record.TheConstants.{LEVELS}
use Rattle.protocol_controls.specs.Notification.{notification_of}
use Rattle.protocol_controls.specs.ProposeRunCompletionAck.{propose_run_completion_ack_of}
use Rattle.protocol_messages.specs.NotificationContent.{notification_told}
use Rattle.protocol_stream.specs.Header.{message_type}
use Rattle.protocol_stream.specs.Item.{Item, unknown}
use Rattle.protocol_stream.specs.declared.decoder.NotificationField.{NotificationField}
use Rattle.vm_machine.specs.MessageKinds.{incoming_of}
use Rattle.vm_machine.specs.declared.incoming.Incoming.{Incoming}
use Rattle.vm_machine.specs.declared.incoming.Incoming.TheVariants as incoming
use Rattle.vm_attempt_laws.specs.Bodies.{NonEmptyValue}
use Rattle.vm_attempt_laws.specs.Words.{Arrival, AttemptStart, Bytes, CarriesInput, completion, input_bytes, item_at, message, piece_of}

-- an acknowledgement has the number of a run alone: it stands for the outcome that was proposed of that
abbrev pub outcome_acknowledged : ℕ → List (ℕ × NonEmptyValue) → List Arrival
outcome_acknowledged n [] = []
outcome_acknowledged n (outcome ∷ proposed) = if outcome.0 == n then completion n (result_of_value outcome.1) ∷ [] else outcome_acknowledged n proposed

-- the notification that a record tells
abbrev pub arrival_told : Result Arrival NotificationField → List Arrival
arrival_told (Ok arrival) = arrival ∷ []
arrival_told (Err field) = []

-- what a message of this payload brings, by what it is to a machine
abbrev pub arrivals_brought : List (ℕ × NonEmptyValue) → Incoming → Bytes → List Arrival
arrivals_brought proposed incoming.Notification payload = arrival_told (notification_told (notification_of LEVELS (fields payload)))
arrivals_brought proposed incoming.RunAcknowledgement payload = outcome_acknowledged (propose_run_completion_ack_of LEVELS (fields payload)).completion_id proposed
arrivals_brought proposed _ payload = []

abbrev pub arrivals_of_item : List (ℕ × NonEmptyValue) → Item → List Arrival
arrivals_of_item proposed (message one) = arrivals_brought proposed (incoming_of (message_type one.header)) one.payload
arrivals_of_item proposed (unknown type) = []

abbrev pub arrivals_of_items : List (ℕ × NonEmptyValue) → List Item → List Arrival
arrivals_of_items proposed [] = []
arrivals_of_items proposed (item ∷ more) = arrivals_of_item proposed item ++ arrivals_of_items proposed more

-- the arrivals that have come whole to an attempt that was begun so, among the bytes behind its start frame
abbrev pub arrivals_come : AttemptStart → (handed : Bytes) → (proposed : List (ℕ × NonEmptyValue)) → List Arrival
arrivals_come start handed proposed = arrivals_of_items proposed (items item_at (drop (length start.frame) handed))

-- its start frame has come whole, its input, and its journal
pub record HasJournal (start : AttemptStart) (handed : Bytes) : Type 0 where
  pub later : Bytes
  pub parts : handed ≡ start.frame ++ (input_bytes (map piece_of (CarriesInput start.new ∷ start.journal)) ++ later)
