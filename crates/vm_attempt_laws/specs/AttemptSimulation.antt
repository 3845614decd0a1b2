-- How an attempt over a machine stands to the live attempt of which the definitions speak.
use Rattle.std.specs.Prelude.{◌≡◌, ◌⊎◌, ◌≤◌, ◌^◌, ℕ, Bool, true, List, [], ◌++◌, Some, None}
use Rattle.std.specs.List.{AllByRecursion}
use Rattle.attempt_model.specs.Requests.{Commands, requests_by}
use Rattle.vm_types.specs.Reads.{no_reads}
use Rattle.vm_start.specs.Starts.{without_state}
use Rattle.vm_attempt_laws.specs.Attempts.{output_of, Attempt, Finish, Turn}
use Rattle.vm_attempt_laws.specs.Bodies.{NonEmptyValue, Executor, KeepsBodies, IsReplayed}
use Rattle.vm_attempt_laws.specs.Machine.phases
use Rattle.vm_attempt_laws.specs.Machine.{IsCopy, IsDriven}
use Rattle.vm_attempt_laws.specs.InputOfAttempt.{IsInputOf, IsRunOf, Kind, phase_kind, start_told, HasStarted}
use Rattle.vm_attempt_laws.specs.OutputOfAttempt.{is_recorded}
use Rattle.vm_attempt_laws.specs.Words.{item_at, Version, Error, Call, answers_of, Request, StartState, Handler, run, arrivals_carried, are_by_text, Machine, machine_at_start, ShowsStart, with_messages, AttemptInRun, HasReadJournal, VMOptions, SlotsFit, IsTextId}

-- ---- its handler

-- whatever was asked and recorded before, the store records what the call asks for
abbrev pub IsOfStore : Call → Type 0
IsOfStore call = (start : StartState) (done : List Request) (left : Commands) (completion : ℕ)
    → AllByRecursion (λ request. is_recorded request ≡ true) (requests_by start done left completion call)

-- ---- its input

-- its messages are the input, the journal and later arrivals, as the protocol can carry them
abbrev pub IsFedBy : AttemptInRun → Type 0
IsFedBy live = IsInputOf live.start (live.read ++ live.unread)

-- ---- its machine

-- what it is beside what it is fed: a handler makes no read of which nothing is recorded
abbrev pub kind_where : Version → VMOptions → (is_closed : Bool) → Kind
kind_where version options is_closed = record { version = version; options = options; is_input_closed = is_closed; reads = no_reads }

-- the numbers that were taken, and those that handles stand for, can be told, and so can the keys that it has written, and the ids of children
-- that were taken: they are text
pub record HasNumbers (m : Machine) : Type 0 where
  pub completions : m.completions ≤ 2 ^ 32
  pub signals : m.signals ≤ 2 ^ 32
  pub slots : SlotsFit m.slots
  pub texts : are_by_text m.written ≡ true
  pub ids : AllByRecursion (λ child. IsTextId child.taken) m.children

module _ {H : Type 0} (function : H → Handler) (next : Handler) (version : Version) (options : VMOptions) where
  -- its input was not read, so its handler was asked nothing: its machine keeps the messages that have come
  pub record HasNotRead (live : AttemptInRun) (is_closed : Bool) (a : Attempt H) : Type 0 where
    pub input : a.input ≡ None
    pub answers : a.answers ≡ []
    pub calls : live.calls ≡ 0
    pub machine : live.machine ≡ with_messages (machine_at_start live.start.shown [] []) live.read
    pub shows : ShowsStart live.start
    pub started : HasStarted live.start (start_told live.start shows) (kind_where version options is_closed) live.read a.vm.state
    pub unwritten : output_of a ≡ []

  -- its input was read: calls see its machine, and what its handler was answered is what the run over the arrivals read has answered
  pub record HasRead (live : AttemptInRun) (a : Attempt H) : Type 0 where
    pub journal : HasReadJournal live
    pub input : a.input ≡ Some live.start.given.input
    pub answers : a.answers ≡ answers_of (run next live.start.given (arrivals_carried live.read) live.calls).steps
    pub driven : IsDriven live.start.given live.machine a.vm.state
    -- it knows what the start frame has told, but for the state
    pub shows : ShowsStart live.start
    pub start_is : a.vm.state.start ≡ Some (without_state (start_told live.start shows))
    pub numbers : HasNumbers live.machine

  -- the attempt is the live one, and not over: the run is that of its handler, it holds these bytes, and no whole message among them
  pub record Serves (live : AttemptInRun) (is_closed : Bool) (a : Attempt H) : Type 0 where
    pub handler : function a.handler ≡ next
    pub going : a.over ≡ None
    pub kind : phase_kind a.vm.state ≡ kind_where version options is_closed
    pub of_run : IsRunOf live.start version options
    pub fed : IsFedBy live
    pub started : live.bytes ≡ live.held
    pub bytes : a.vm.state.decoder ≡ live.held
    pub whole : item_at a.vm.state.decoder ≡ None
    pub stands : HasNotRead live is_closed a ⊎ HasRead live a

module _ {H : Type 0} (next : Handler) where
  -- The attempt has proposed these outcomes, replays its journal with the bodies of its runs, and its machine keeps these. It has proposed
  -- behind its journal alone.
  pub record HasBodies (live : AttemptInRun) (proposed : List (ℕ × NonEmptyValue)) (a : Attempt H) : Type 0 where
    pub executor : Executor
    pub lives : IsReplayed next live proposed executor
    pub keeps : KeepsBodies a.vm.state.runs executor
    pub behind : (proposed ≡ []) ⊎ (live.machine.left ≡ [])

-- ---- behind its end

module _ {H : Type 0} where
  -- it writes nothing more: it is over, or its machine has failed
  pub data IsOver (a : Attempt H) : Type 0 where
    finished : (finish : Finish) → a.over ≡ Some finish → IsOver a
    machine_failed : (error : Error) → a.vm.state.phase ≡ phases.Failed error → IsOver a

  -- where its machine has failed, a turn that fails has answered a copy of what it has failed with, or that there was no memory for one
  abbrev pub AnswersKept : Turn → Attempt H → Type 0
  AnswersKept (Turn.Failed error) a = (kept : Error) → a.vm.state.phase ≡ phases.Failed kept → IsCopy kept error
  AnswersKept turn a = Unit {0}
