-- How a machine stands to an attempt that was told messages of its input: before its start, among its entries, and when calls are made.
use Rattle.std.specs.Prelude.{◌≡◌, ◌+◌, Bool, false, List, [], ◌∷◌, ◌++◌, length, Some}
use Rattle.std.specs.List.{AllByRecursion}
use Rattle.protocol_records.specs.declared.start.StartMessage.{StartMessage}
use Rattle.protocol_stream.specs.Records.{start_record}
use Rattle.protocol_types.specs.Version.{version_number}
use Rattle.protocol_types.specs.declared.version.Version.{Version}
use Rattle.journal_model.specs.State.{StateMap, IsOrdered}
use Rattle.journal_model.specs.Start.{start_payload_of}
use Rattle.journal_model.specs.Headline.{run_of}
use Rattle.input_laws.specs.Message.{InputMessage, CarriesInput, CarriesRequest, CarriesArrival, CarriesOutcome}
use Rattle.attempt_model.specs.Machine.{Machine, machine_at_start}
use Rattle.live_laws.specs.StartFrame.{AttemptStart, ShowsStart}
use Rattle.vm_calls.specs.Active.{Sees}
use Rattle.vm_types.specs.Reads.{EphemeralReads, no_reads}
use Rattle.vm_machine.specs.StateBeforeInput.{Gathers}
use Rattle.vm_runs.specs.Runs.{no_runs}
use Rattle.vm_start.specs.declared.phase.Phase.TheVariants as phases
use Rattle.vm_machine.specs.declared.machine_state.MachineState.{MachineState}
use Rattle.vm_start.specs.Starts.{without_state}
use Rattle.vm_types.specs.Options.{run_options}
use Rattle.vm_types.specs.declared.options.VMOptions.{VMOptions}
use Rattle.vm_types.specs.declared.options.JournalReplay.TheVariants.{Enabled}
use Rattle.vm_input_laws.specs.Messages.{MessageFits}
use Rattle.vm_input_laws.specs.MachineStart.{WaitsForStart, BeginsWell}
use Rattle.vm_input_laws.specs.InputMessages.{gathered_all, commands_in, phase_behind}

-- ---- the attempt

-- a message of a journal, and one that comes behind it: an acknowledgement comes only there
abbrev pub IsEntry : InputMessage → Type 0
IsEntry (CarriesRequest request) = Unit {0}
IsEntry (CarriesArrival ty arrival) = Unit {0}
IsEntry _ = ⊥

abbrev pub IsArrival : InputMessage → Type 0
IsArrival (CarriesArrival ty arrival) = Unit {0}
IsArrival (CarriesOutcome number value) = Unit {0}
IsArrival _ = ⊥

-- the messages of the attempt's input: the input, the journal that it was begun with, and later arrivals, all as the protocol can carry them
pub record IsInputOf (start : AttemptStart) (messages : List InputMessage) : Type 0 where
  pub journal : AllByRecursion IsEntry start.journal
  pub later : List InputMessage
  pub parts : messages ≡ CarriesInput start.new ∷ (start.journal ++ later)
  pub arrivals : AllByRecursion IsArrival later
  pub fit : AllByRecursion MessageFits messages

-- the start's message
abbrev pub start_told : (start : AttemptStart) → ShowsStart start → StartMessage
start_told start shows = start_record start.new shows.state (1 + length start.journal) shows.shows.retry_count shows.shows.duration

-- it is one with which an attempt begins
pub record CanBegin (start : AttemptStart) (shows : ShowsStart start) : Type 0 where
  pub ordered : IsOrdered shows.state
  pub well : BeginsWell (start_told start shows) (start_payload_of start.new shows.state (1 + length start.journal) shows.shows.retry_count shows.shows.duration)

-- the run is the one that a machine of this version and these options makes, which replays its journal
pub record IsRunOf (start : AttemptStart) (version : Version) (options : VMOptions) : Type 0 where
  pub state : StateMap
  pub given_is : start.given ≡ run_of (run_options options) options.fallback_random_seed start.new state
  pub version_is : start.new.version ≡ version_number version
  pub replays : options.journal_replay ≡ Enabled

-- ---- its machine

-- what it is beside what it is fed: the version that it speaks, its options, whether its input is closed, and its reads of which nothing is
-- recorded
pub record Kind : Type 0 where
  pub version : Version
  pub options : VMOptions
  pub is_input_closed : Bool
  pub reads : EphemeralReads

abbrev pub phase_kind : MachineState → Kind
phase_kind vm = record { version = vm.version; options = vm.options; is_input_closed = vm.is_input_closed; reads = vm.reads }

abbrev pub new_kind : Version → VMOptions → Kind
new_kind version options = record { version = version; options = options; is_input_closed = false; reads = no_reads }

-- nothing but bytes of its start has come
pub record AwaitsStart (start : AttemptStart) (kind : Kind) (vm : MachineState) : Type 0 where
  pub kind_is : phase_kind vm ≡ kind
  pub waits : WaitsForStart start.given vm
  pub runs : vm.runs ≡ no_runs

-- It has its start and has kept these messages; it waits for those entries that are left of the announced ones, and calls are made of it when
-- none is. Nothing was asked of it yet: it has written nothing, and keeps no run.
pub record HasStarted (start : AttemptStart) (told : StartMessage) (kind : Kind) (read : List InputMessage) (vm : MachineState) : Type 0 where
  pub kind_is : phase_kind vm ≡ kind
  pub phase : vm.phase ≡ phase_behind read (phases.WaitingReplayEntries (1 + length start.journal))
  pub start_is : vm.start ≡ Some (without_state told)
  pub commands : vm.active.commands.items ≡ commands_in read
  pub gathers : Gathers start.given vm.active (gathered_all read (machine_at_start start.shown [] []))
  pub runs : vm.runs ≡ no_runs
  pub output : vm.active.output ≡ record { version = kind.version; bytes = []; is_closed = false; has_commands = false }

-- its input was read: calls see this machine
pub record IsInputAsked (start : AttemptStart) (kind : Kind) (m : Machine) (vm : MachineState) : Type 0 where
  pub kind_is : phase_kind vm ≡ kind
  pub phase : vm.phase ≡ phases.Active
  pub sees : Sees start.given vm.active m
