-- The laws of this crate.
use Rattle.std.specs.Prelude.{◌≡◌, ◌⊎◌, false, List, [], ◌++◌, map, Some, None, Result, Ok, Err}
use Rattle.std.specs.List.{AllByRecursion}
use Rattle.protocol_errors.specs.declared.error.Error.{Error}
use Rattle.protocol_records.specs.declared.start.StartMessage.{StartMessage}
use Rattle.protocol_stream.specs.Item.{item_at}
use Rattle.protocol_types.specs.declared.version.Version.{Version}
use Rattle.journal_model.specs.declared.handler.Input.{Input}
use Rattle.journal_model.specs.Notification.{Bytes}
use Rattle.journal_model.specs.Attempt.{input_bytes}
use Rattle.input_laws.specs.Message.{InputMessage, piece_of, arrivals_carried, requests_carried}
use Rattle.attempt_model.specs.Machine.{Machine, machine_at_start}
use Rattle.body_laws.specs.Bodies.{Executor}
use Rattle.replay_laws.specs.AttemptWithBodies.{reads_messages, AreCached}
use Rattle.vm_runs.specs.Runs.{no_runs}
use Rattle.vm_runs.specs.KeptBodies.{KeepsBodies}
use Rattle.live_laws.specs.StartFrame.{AttemptStart, ShowsStart}
use Rattle.live_laws.specs.MachinePosition.{with_messages}
use Rattle.vm_feeding.specs.NewMachine.{IsNew}
use Rattle.vm_feeding.specs.InputAnswer.{IsInputRead}
use Rattle.vm_start.specs.FailureReport.{out_of_memory, ended}
use Rattle.vm_start.specs.declared.phase.Phase.TheVariants as phases
use Rattle.vm_machine.specs.declared.machine_state.MachineState.{MachineState}
use Rattle.vm_types.specs.declared.options.VMOptions.{VMOptions}
use Rattle.vm_input_laws.specs.Memory.{FailsForMemory}
use Rattle.vm_input_laws.specs.Messages.{MessageFits}
use Rattle.vm_input_laws.specs.InputMessages.{bytes_of, IsFedEach, KnowsRuns}
use Rattle.vm_input_laws.specs.InputPhases.{IsArrival, IsInputOf, start_told, CanBegin, IsRunOf, Kind, new_kind, AwaitsStart, HasStarted, IsInputAsked}

-- ---- the bodies of runs

-- no run is kept, and each outcome that these messages acknowledge is cached: so they acknowledge none
pub record KnowsNoRuns (e : Executor) (messages : List InputMessage) : Type 0 where
  pub keeps : KeepsBodies no_runs e
  pub cached : AreCached e messages

-- ---- the start

-- less than the start's frame has come, and it is held
pub record HoldsStart (start : AttemptStart) (kind : Kind) (unread : List InputMessage) (coming : Bytes) (vm : MachineState) : Type 0 where
  pub awaits : AwaitsStart start kind vm
  pub bytes : vm.decoder ++ coming ≡ start.frame ++ input_bytes (map piece_of unread)
  pub whole : item_at vm.decoder ≡ None

-- the first of the messages that were not read have come whole and were read; of the others bytes are held, but no whole message
pub record ReadsOn (start : AttemptStart) (told : StartMessage) (kind : Kind) (read unread : List InputMessage) (coming : Bytes) (vm : MachineState) : Type 0 where
  pub some : List InputMessage
  pub still : List InputMessage
  pub parts : unread ≡ some ++ still
  pub bytes : vm.decoder ++ coming ≡ input_bytes (map piece_of still)
  pub whole : item_at vm.decoder ≡ None
  pub started : HasStarted start told kind (read ++ some) vm
  -- what it keeps of runs is what the bodies are, where none was to be executed before
  pub bodies : (e : Executor) → KeepsBodies no_runs e → KeepsBodies vm.runs (reads_messages e some)

abbrev pub StartsAreRead : Type 0
StartsAreRead = (start : AttemptStart) (shows : ShowsStart start) (kind : Kind) (messages : List InputMessage) (cuts : List Bytes) (coming : Bytes) (old new : MachineState) (e : Executor)
    → CanBegin start shows → IsInputOf start messages → KnowsNoRuns e messages → HoldsStart start kind messages (bytes_of cuts ++ coming) old → IsFedEach cuts old new
    → HoldsStart start kind messages coming new ⊎ (ReadsOn start (start_told start shows) kind [] messages coming new ⊎ FailsForMemory old new)

-- ---- the journal

abbrev pub JournalsAreRead : Type 0
JournalsAreRead = (start : AttemptStart) (told : StartMessage) (kind : Kind) (read unread : List InputMessage) (cuts : List Bytes) (coming : Bytes) (old new : MachineState) (e : Executor)
    → IsInputOf start (read ++ unread) → HasStarted start told kind read old → KnowsNoRuns e unread → item_at old.decoder ≡ None → old.decoder ++ (bytes_of cuts ++ coming) ≡ input_bytes (map piece_of unread)
    → IsFedEach cuts old new → ReadsOn start told kind read unread coming new ⊎ FailsForMemory old new

-- ---- arrivals behind it

-- the first of these arrivals have come whole, and calls see them; nothing is written, and what is kept of runs is what the bodies are with
-- those that are acknowledged among them
pub record ReadsArrivals (start : AttemptStart) (kind : Kind) (m : Machine) (unread : List InputMessage) (coming : Bytes) (old new : MachineState) : Type 0 where
  pub some : List InputMessage
  pub still : List InputMessage
  pub parts : unread ≡ some ++ still
  pub bytes : new.decoder ++ coming ≡ input_bytes (map piece_of still)
  pub whole : item_at new.decoder ≡ None
  pub asked : IsInputAsked start kind (with_messages m some) new
  pub bodies : (e : Executor) → KeepsBodies old.runs e → KeepsBodies new.runs (reads_messages e some)
  pub output : new.active.output ≡ old.active.output

abbrev pub ArrivalsAreRead : Type 0
ArrivalsAreRead = (start : AttemptStart) (kind : Kind) (m : Machine) (unread : List InputMessage) (cuts : List Bytes) (coming : Bytes) (old new : MachineState) (e : Executor)
    → AllByRecursion IsArrival unread → AllByRecursion MessageFits unread → IsInputAsked start kind m old → KnowsRuns e unread old → item_at old.decoder ≡ None
    → old.decoder ++ (bytes_of cuts ++ coming) ≡ input_bytes (map piece_of unread) → IsFedEach cuts old new
    → ReadsArrivals start kind m unread coming old new ⊎ FailsForMemory old new

-- ---- the input

-- the run's input is answered, and calls see this machine; nothing was written, and the bytes that are held stay
pub record AnswersInput (start : AttemptStart) (kind : Kind) (m : Machine) (old : MachineState) (result : Result Input Error) (new : MachineState) : Type 0 where
  pub answer : result ≡ Ok start.given.input
  pub asked : IsInputAsked start kind m new
  pub written : new.active.output ≡ record { version = kind.version; bytes = []; is_closed = false; has_commands = false }
  pub others : new ≡ record old { active = new.active }

-- or the answer is that memory was refused, and nothing was written
pub record RefusesInput (version : Version) (result : Result Input Error) (new : MachineState) : Type 0 where
  pub answer : result ≡ Err out_of_memory
  pub phase : new.phase ≡ phases.Failed out_of_memory
  pub output : new.active.output ≡ ended (record { version = version; bytes = []; is_closed = false; has_commands = false })

abbrev pub InputsAreAnswered : Type 0
InputsAreAnswered = (start : AttemptStart) (shows : ShowsStart start) (kind : Kind) (read : List InputMessage) (old : MachineState) (result : Result Input Error) (new : MachineState)
    → IsRunOf start kind.version kind.options → IsInputOf start read → HasStarted start (start_told start shows) kind read old → IsInputRead old result new
    → AnswersInput start kind (with_messages (machine_at_start start.shown [] []) read) old result new ⊎ RefusesInput kind.version result new

-- ---- all together

-- all that was told was read, and the input is answered
pub record BeginsAttempt (start : AttemptStart) (version : Version) (options : VMOptions) (messages : List InputMessage) (fed : MachineState) (result : Result Input Error) (new : MachineState) : Type 0 where
  pub answers : AnswersInput start (new_kind version options) (machine_at_start start.shown (map Some (requests_carried messages)) (arrivals_carried messages)) fed result new
  pub held : new.decoder ≡ []
  pub runs : new.runs ≡ no_runs

abbrev pub AttemptsBegin : Type 0
AttemptsBegin = (start : AttemptStart) (shows : ShowsStart start) (version : Version) (options : VMOptions) (messages : List InputMessage) (cuts : List Bytes) (old fed : MachineState) (result : Result Input Error)
    (new : MachineState) (e : Executor) → IsRunOf start version options → CanBegin start shows → IsInputOf start messages → KnowsNoRuns e messages → IsNew version options old
    → bytes_of cuts ≡ start.frame ++ input_bytes (map piece_of messages) → IsFedEach cuts old fed → IsInputRead fed result new
    → BeginsAttempt start version options messages fed result new ⊎ RefusesInput version result new
