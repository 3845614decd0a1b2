-- What a machine makes of the messages of its attempt's input, in any cut of their bytes.
use Rattle.std.specs.Prelude.{◌≡◌, ◌⊎◌, ℕ, false, List, [], ◌∷◌, ◌++◌, map, length, Some, None}
use Rattle.std.specs.List.{AllByRecursion}
use Rattle.protocol_errors.specs.declared.error.Error.{Error}
use Rattle.protocol_stream.specs.Item.{item_at}
use Rattle.protocol_stream.specs.declared.decoder.RawMessage.{RawMessage}
use Rattle.journal_model.specs.declared.value.NonEmptyValue.{NonEmptyValue}
use Rattle.journal_model.specs.Notification.{Bytes}
use Rattle.journal_model.specs.Run.{Invocation}
use Rattle.journal_model.specs.Attempt.{input_bytes, arrivals_within}
use Rattle.input_laws.specs.Message.{InputMessage, piece_of}
use Rattle.attempt_model.specs.Machine.{Machine}
use Rattle.body_laws.specs.Bodies.{Executor}
use Rattle.replay_laws.specs.AttemptWithBodies.{reads_messages, AreCached}
use Rattle.vm_runs.specs.Runs.{Runs}
use Rattle.vm_runs.specs.KeptBodies.{KeepsBodies}
use Rattle.vm_calls.specs.Active.{Sees}
use Rattle.vm_start.specs.declared.phase.Phase.{Phase}
use Rattle.vm_start.specs.declared.phase.Phase.TheVariants as phases
use Rattle.vm_machine.specs.StateBeforeInput.{Gathers}
use Rattle.vm_feeding.specs.InputBytes.{has_failed, IsFed}
use Rattle.vm_machine.specs.declared.machine_state.MachineState.{MachineState}
use Rattle.vm_input_laws.specs.Memory.{FailsForMemory}
use Rattle.vm_input_laws.specs.Messages.{MessageFits, IsWaitedFor, command_in, gathered, runs_then, phase_then}

-- ---- bytes in any cut, of which the last is first

abbrev pub bytes_of : List Bytes → Bytes
bytes_of [] = []
bytes_of (cut ∷ before) = bytes_of before ++ cut

-- one after the other is told to the machine
abbrev pub IsFedEach : List Bytes → (old new : MachineState) → Type 0
IsFedEach [] old new = new ≡ old
IsFedEach (cut ∷ before) old new = (between : MachineState) × IsFedEach before old between × IsFed cut between new

-- ---- messages one after the other, of which the first is first

abbrev pub gathered_all : List InputMessage → Machine → Machine
gathered_all [] m = m
gathered_all (message ∷ messages) m = gathered_all messages (gathered message m)

abbrev pub commands_in : List InputMessage → List RawMessage
commands_in [] = []
commands_in (message ∷ messages) = command_in message ++ commands_in messages

abbrev pub runs_behind : List InputMessage → Runs → Runs
runs_behind [] runs = runs
runs_behind (message ∷ messages) runs = runs_behind messages (runs_then message runs)

-- one entry less is waited for with each
abbrev pub phase_behind : List InputMessage → Phase → Phase
phase_behind [] phase = phase
phase_behind (message ∷ messages) phase = phase_behind messages (phase_then phase)

-- entries while they are waited for, and arrivals from then on
abbrev pub AreWaitedFor : List InputMessage → Phase → Type 0
AreWaitedFor [] phase = Unit {0}
AreWaitedFor (message ∷ messages) phase = IsWaitedFor message phase × AreWaitedFor messages (phase_then phase)

-- What the machine keeps of runs is what the bodies of an attempt are. Each outcome that these messages acknowledge is cached; and where one is,
-- it was proposed behind the journal, so nothing is replayed.
pub record KnowsRuns (e : Executor) (messages : List InputMessage) (vm : MachineState) : Type 0 where
  pub keeps : KeepsBodies vm.runs e
  pub cached : AreCached e messages
  pub behind : (n : ℕ) (value : NonEmptyValue) → e.cached n ≡ Some value → vm.active.is_replaying ≡ false

-- the machine keeps them as the abstract machine does, before the input is read and behind it, and nothing else has changed
pub record AreKept (given : Invocation) (messages : List InputMessage) (old new : MachineState) : Type 0 where
  pub phase : new.phase ≡ phase_behind messages old.phase
  pub output : new.active.output ≡ old.active.output
  pub commands : new.active.commands.items ≡ old.active.commands.items ++ commands_in messages
  pub gathers : (m : Machine) → Gathers given old.active m → Gathers given new.active (gathered_all messages m)
  pub sees : old.phase ≡ phases.Active → (m : Machine) → Sees given old.active m → Sees given new.active (gathered_all messages m)
  pub replaying : new.active.is_replaying ≡ old.active.is_replaying
  -- what is kept of runs is what the bodies are that were, with these messages
  pub runs : new.runs ≡ runs_behind messages old.runs
  pub bodies : (e : Executor) → KeepsBodies old.runs e → KeepsBodies new.runs (reads_messages e messages)
  pub others : new ≡ record old { decoder = new.decoder; phase = new.phase; active = new.active; runs = new.runs }

-- the first of these messages have come whole and were taken; of the others some bytes are held, and these are still to come
pub record TakesFirstMessages (given : Invocation) (messages : List InputMessage) (coming : Bytes) (old new : MachineState) : Type 0 where
  pub some : List InputMessage
  pub still : List InputMessage
  pub parts : messages ≡ some ++ still
  pub bytes : new.decoder ++ coming ≡ input_bytes (map piece_of still)
  pub whole : item_at new.decoder ≡ None
  pub kept : AreKept given some old new

-- ---- laws

abbrev pub InputsAreKept : Type 0
InputsAreKept = (given : Invocation) (messages : List InputMessage) (cuts : List Bytes) (coming : Bytes) (old new : MachineState) (e : Executor) → has_failed old.phase ≡ false → item_at old.decoder ≡ None
    → AllByRecursion MessageFits messages → AreWaitedFor messages old.phase → KnowsRuns e messages old → old.decoder ++ (bytes_of cuts ++ coming) ≡ input_bytes (map piece_of messages)
    → IsFedEach cuts old new → TakesFirstMessages given messages coming old new ⊎ FailsForMemory old new

-- it has failed with the same error, and nothing else has changed but that it may keep what has come
pub record StaysFailed (error : Error) (old new : MachineState) : Type 0 where
  pub phase : new.phase ≡ phases.Failed error
  pub others : new ≡ record old { decoder = new.decoder }

abbrev pub FailedMachinesStay : Type 0
FailedMachinesStay = (error : Error) (cuts : List Bytes) (old new : MachineState) → old.phase ≡ phases.Failed error → IsFedEach cuts old new → StaysFailed error old new

-- where no whole message is held, no arrival's is
abbrev pub NoArrivalIsHeld : Type 0
NoArrivalIsHeld = (messages : List InputMessage) (held coming : Bytes) → AllByRecursion MessageFits messages → held ++ coming ≡ input_bytes (map piece_of messages) → item_at held ≡ None
    → arrivals_within (map piece_of messages) (length held) ≡ 0
