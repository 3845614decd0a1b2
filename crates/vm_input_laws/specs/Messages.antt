-- What a machine makes of the next message of its attempt's input.
use Rattle.std.specs.Prelude.{◌≡◌, ◌⊎◌, ◌<◌, ◌^◌, false, List, [], ◌∷◌, ◌++◌, Some, None, Ok}
use Rattle.protocol_types.specs.declared.message_type.MessageType.TheVariants as types
use Rattle.protocol_stream.specs.Decoder.{ConsumesNext}
use Rattle.protocol_stream.specs.declared.decoder.RawMessage.{RawMessage}
use Rattle.protocol_stream.specs.Frame.{message_of}
use Rattle.journal_model.specs.Notification.{Arrival}
use Rattle.journal_model.specs.Value.{result_of_value}
use Rattle.journal_model.specs.Journal.{completion}
use Rattle.journal_model.specs.Run.{Invocation}
use Rattle.journal_model.specs.Spelling.{request_type, request_payload, input_payload, notification_payload, acknowledgement_payload}
use Rattle.input_laws.specs.Message.{InputMessage, CarriesInput, CarriesRequest, CarriesArrival, CarriesOutcome}
use Rattle.attempt_model.specs.Machine.{Machine, with_arrival}
use Rattle.body_laws.specs.Bodies.{Executor}
use Rattle.replay_laws.specs.AttemptWithBodies.{reads_message}
use Rattle.vm_runs.specs.Runs.{Runs, outcome_at, acknowledged}
use Rattle.vm_runs.specs.KeptBodies.{KeepsBodies}
use Rattle.vm_calls.specs.declared.active.Active.{Active}
use Rattle.vm_calls.specs.Active.{Sees}
use Rattle.vm_start.specs.Phases.{phase_after_entry}
use Rattle.vm_start.specs.declared.phase.Phase.{Phase}
use Rattle.vm_start.specs.declared.phase.Phase.TheVariants as phases
use Rattle.vm_machine.specs.StateBeforeInput.{Gathers, with_command}
use Rattle.vm_feeding.specs.InputBytes.{LacksMemoryToKeep, TakesNext}
use Rattle.vm_machine.specs.declared.machine_state.MachineState.{MachineState}
use Rattle.vm_request_laws.specs.RequestBounds.{RequestFits}
use Rattle.vm_input_laws.specs.Arrivals.{ArrivalFits, IsNotificationType}
use Rattle.vm_input_laws.specs.FirstFrames.{InputFits}

-- the message as its bytes bring it
abbrev pub raw_of : InputMessage → RawMessage
raw_of (CarriesInput new) = message_of types.InputCommand (input_payload new.headers new.input)
raw_of (CarriesRequest request) = message_of (request_type request) (request_payload request)
raw_of (CarriesArrival ty arrival) = message_of ty (notification_payload arrival)
raw_of (CarriesOutcome number value) = message_of types.ProposeRunCompletionAck (acknowledgement_payload number)

-- what of it is left for the calls to match, the input among that
abbrev pub command_in : InputMessage → List RawMessage
command_in (CarriesInput new) = raw_of (CarriesInput new) ∷ []
command_in (CarriesRequest request) = raw_of (CarriesRequest request) ∷ []
command_in _ = []

-- it is one that the protocol can carry; an acknowledgement has a number alone
abbrev pub MessageFits : InputMessage → Type 0
MessageFits (CarriesInput new) = InputFits new.headers new.input
MessageFits (CarriesRequest request) = RequestFits request
MessageFits (CarriesArrival ty arrival) = ArrivalFits arrival × IsNotificationType ty
MessageFits (CarriesOutcome number value) = number < 2 ^ 32

-- the abstract machine, with the message: what is recorded is left to match, the input as what no call makes; an arrival waits in line, and so
-- does an outcome that is acknowledged
abbrev pub gathered : InputMessage → Machine → Machine
gathered (CarriesInput new) m = with_command m None
gathered (CarriesRequest request) m = with_command m (Some request)
gathered (CarriesArrival ty arrival) m = with_arrival m arrival
gathered (CarriesOutcome number value) m = with_arrival m (completion number (result_of_value value))

-- what is kept of runs, with the message: an outcome that is acknowledged is kept no longer
abbrev pub runs_then : InputMessage → Runs → Runs
runs_then (CarriesOutcome number value) runs = acknowledged number runs
runs_then message runs = runs

-- an arrival waits in line, before the input is read and behind it
abbrev pub KeepsArrival : Invocation → Arrival → Active → Active → Type 0
KeepsArrival given arrival old new = (m : Machine)
    → (Gathers given old m → Gathers given new (with_arrival m arrival)) × (Sees given old m → Sees given new (with_arrival m arrival))

-- it is kept as the abstract machine keeps it, before the input is read; an arrival also behind it
abbrev pub KeepsMessage : Invocation → InputMessage → Active → Active → Type 0
KeepsMessage given (CarriesArrival ty arrival) old new = KeepsArrival given arrival old new
KeepsMessage given (CarriesOutcome number value) old new = KeepsArrival given (completion number (result_of_value value)) old new
KeepsMessage given message old new = (m : Machine) → Gathers given old m → Gathers given new (gathered message m)

-- one entry less is waited for
abbrev pub phase_then : Phase → Phase
phase_then (phases.WaitingReplayEntries left) = phase_after_entry left
phase_then phase = phase

pub record Kept (given : Invocation) (message : InputMessage) (old new : MachineState) : Type 0 where
  -- its bytes leave, and those behind it stay
  pub bytes : ConsumesNext old.decoder (Ok (Some (raw_of message))) new.decoder
  pub phase : new.phase ≡ phase_then old.phase
  pub output : new.active.output ≡ old.active.output
  pub commands : new.active.commands.items ≡ old.active.commands.items ++ command_in message
  pub keeps : KeepsMessage given message old.active new.active
  -- it replays as before
  pub replaying : new.active.is_replaying ≡ old.active.is_replaying
  -- what is kept of runs is what the bodies are that were, with the message
  pub runs : new.runs ≡ runs_then message old.runs
  pub bodies : (e : Executor) → KeepsBodies old.runs e → KeepsBodies new.runs (reads_message e message)
  pub others : new ≡ record old { decoder = new.decoder; phase = new.phase; active = new.active; runs = new.runs }

-- there was no memory for it, and the machine has failed for that
pub record Unkept (old new : MachineState) : Type 0 where
  pub between : MachineState
  pub phase : between.phase ≡ old.phase
  pub output : between.active.output ≡ old.active.output
  pub lacks : LacksMemoryToKeep between new

-- while entries are waited for any message is taken but an acknowledgement; from then on arrivals and acknowledgements are
abbrev pub IsWaitedFor : InputMessage → Phase → Type 0
IsWaitedFor (CarriesOutcome number value) (phases.WaitingReplayEntries left) = ⊥
IsWaitedFor message (phases.WaitingReplayEntries left) = Unit {0}
IsWaitedFor (CarriesArrival ty arrival) phases.Active = Unit {0}
IsWaitedFor (CarriesOutcome number value) phases.Active = Unit {0}
IsWaitedFor message phase = ⊥

-- what an acknowledgement acknowledges was kept, and nothing that was recorded is left to match
abbrev pub IsExpected : InputMessage → MachineState → Type 0
IsExpected (CarriesOutcome number value) vm = (outcome_at vm.runs.cached number ≡ Some value) × (vm.active.is_replaying ≡ false)
IsExpected message vm = Unit {0}

abbrev pub MessagesAreKept : Type 0
MessagesAreKept = (given : Invocation) (message : InputMessage) (old new : MachineState) → MessageFits message → IsWaitedFor message old.phase → IsExpected message old
    → TakesNext (raw_of message) old new → Kept given message old new ⊎ Unkept old new
