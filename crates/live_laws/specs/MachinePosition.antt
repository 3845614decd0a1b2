-- How the machine of an attempt stands among the messages of its input.
use Rattle.std.specs.Prelude.{◌≡◌, ◌⊎◌, ℕ, List, [], ◌∷◌, ◌++◌}
use Rattle.journal_model.specs.Value.{result_of_value}
use Rattle.journal_model.specs.State.{StartState}
use Rattle.journal_model.specs.Journal.{Entry, Recorded, Arrived, completion}
use Rattle.journal_model.specs.Run.{Handler, Invocation}
use Rattle.input_laws.specs.Message.{InputMessage, CarriesInput, CarriesRequest, CarriesArrival, CarriesOutcome, arrivals_carried, requests_carried}
use Rattle.attempt_model.specs.Machine.{Machine, machine_at_start}
use Rattle.attempt_model.specs.Attempts.{with_entries}
use Rattle.attempt_model.specs.Simulation.{Stands}

-- the entry that a message carries, an outcome that is acknowledged as the arrival that it is
abbrev pub entry_carried : InputMessage → List Entry
entry_carried (CarriesInput new) = []
entry_carried (CarriesRequest request) = Recorded request ∷ []
entry_carried (CarriesArrival type arrival) = Arrived arrival ∷ []
entry_carried (CarriesOutcome number value) = Arrived (completion number (result_of_value value)) ∷ []

abbrev pub entries_carried : List InputMessage → List Entry
entries_carried [] = []
entries_carried (message ∷ messages) = entry_carried message ++ entries_carried messages

-- messages are read: a request is to be matched, an arrival waits in line
abbrev pub with_messages : Machine → List InputMessage → Machine
with_messages m messages = with_entries m (entries_carried messages)

-- the machine was asked nothing: it begins with what the start has shown, and has read these messages
pub record HasOnlyRead (shown : StartState) (read : List InputMessage) (calls : ℕ) (m : Machine) : Type 0 where
  pub none_asked : calls ≡ 0
  pub reads : m ≡ with_messages (machine_at_start shown [] []) read

-- the machine has read all requests of its input, and stands in the run over the arrivals that it has read
pub record IsInRun (next : Handler) (given : Invocation) (read unread : List InputMessage) (calls : ℕ) (m : Machine) : Type 0 where
  pub all_read : requests_carried unread ≡ []
  pub stands : Stands next given (requests_carried read) (arrivals_carried read) calls m

-- it is the one or the other
abbrev pub IsMachineAt : Handler → Invocation → StartState → (read unread : List InputMessage) → ℕ → Machine → Type 0
IsMachineAt next given shown read unread calls m = HasOnlyRead shown read calls m ⊎ IsInRun next given read unread calls m
