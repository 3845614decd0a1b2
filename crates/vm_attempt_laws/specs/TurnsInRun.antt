-- What each turn of an attempt comes to: the run goes on by one answer, waits, has ended, a body of a run is executed, or the attempt has
-- failed for a cause.
use Rattle.std.specs.Prelude.{Bool, ◌≡◌, ◌⊎◌, ◌+◌, ℕ, suc, true, false, List, [], ◌∷◌, ◌++◌, map, length, Option, Some, None}
use Rattle.std.specs.List.{AllByRecursion}
use Rattle.journal_model.specs.Event.{Suspension, ForTree, Frame}
use Rattle.journal_model.specs.Run.{Handler, Invocation, Ending, RefusedCall, Ended, run}
use Rattle.run_laws.specs.SuspensionContent.{WaitsAll}
use Rattle.vm_awaits.specs.Views.{slots_of}
use Rattle.vm_outcomes.specs.Causes.{CauseTells}
use Rattle.vm_attempt_laws.specs.Attempts.{output_of, Turns, Attempt, Turn}
use Rattle.vm_attempt_laws.specs.Bodies.{requests_asked_by, NonEmptyValue, Body, outcomes_in, outcome_frame, RunOutcome}
use Rattle.vm_attempt_laws.specs.AttemptSimulation.{Serves, HasBodies, IsOver, AnswersKept}
use Rattle.vm_attempt_laws.specs.AttemptInvariants.{FailsWith, IsNoFailure, TellsErrorBy}
use Rattle.vm_attempt_laws.specs.Machine.{MachineState, out_of_memory, told_error, Cause, ByFault, TooDeep, NoReplay, NoMemory, HasPut, FailsWhen}
pub use Rattle.vm_attempt_laws.specs.BodyExecution.{RunWaitsFor, RunComesTo, WaitsForOthers, ExecutesFirst, tried_by, OutcomeIs, FailsByBody, IsBodyCode, MayNotEnd}
use Rattle.vm_attempt_laws.specs.OutputOfAttempt.{Sent, Asks, Fails, sent_stream, AllFit, frame_meant, IsOfStore}
use Rattle.vm_attempt_laws.specs.Words.{internal, unsupported_feature, Error, Version, version_number, Call, Input, AwaitTree, NotificationId, Arrival, Request, arrivals_carried, requests_carried, Machine, Refused, ShowsStart, AttemptInRun, HasReadJournal, after_turn, VMOptions, Queued, TurnsOfRun, requests_sent}

-- of a handler that wrote the journal, over the arrivals that were asked for, the run itself refuses the call, or waits for what is nested too
-- deep to be told, or there is no number or no room for what it makes, or no memory
abbrev pub IsOwnCause : Handler → Invocation → List Arrival → ℕ → Cause → Type 0
IsOwnCause next given arrivals calls (ByFault (Refused refusal)) = (run next given arrivals (suc calls)).ending ≡ RefusedCall refusal
IsOwnCause next given arrivals calls (ByFault fault) = ⊥
IsOwnCause next given arrivals calls TooDeep = RunWaitsFor next given arrivals calls
IsOwnCause next given arrivals calls NoReplay = ⊥
IsOwnCause next given arrivals calls cause = Unit {0}

-- what the machine fails with for this cause in a call, where it was the one before and is the other behind, and has written these requests of
-- the call by then: want of memory is told as that, and each other cause by its error, of which the frame is sent behind theirs
abbrev pub IsToldAs : Version → AttemptInRun → Call → (old new : MachineState) → (more : List Request) → Cause → Error → List Sent → Type 0
IsToldAs version live call old new more NoMemory error sent = error ≡ out_of_memory
IsToldAs version live call old new more cause error sent =
    (told : Error) × CauseTells version live.start.given.input.invocation_id live.machine.left new.active.journal (slots_of new.active.results) old.runs call cause told
    × FailsWith told old.active.output error × (sent ≡ map Asks more ++ Fails (told_error error) ∷ [])

-- there is a cause for which the machine fails in this call, and this error tells it
pub record FailsBy (next : Handler) (version : Version) (live : AttemptInRun) (call : Call) (old new : MachineState) (error : Error) (sent : List Sent) : Type 0 where
  -- how far it has come with its requests
  pub far : HasPut live.start.given live.machine call old
  pub cause : Cause
  pub own : IsOwnCause next live.start.given (arrivals_carried live.read) live.calls cause
  pub when : FailsWhen live.start.given live.machine call old far cause
  pub told : IsToldAs version live call old new far.more cause error sent

-- one frame is sent: a suspension, which tells what the run over the arrivals read still waits for
pub record SuspendsWith (next : Handler) (live : AttemptInRun) (frames : List Frame) : Type 0 where
  pub suspension : Suspension
  pub frames_are : frames ≡ Frame.Suspend (Some suspension) ∷ []
  pub waits : WaitsAll next live.start.given (arrivals_carried live.read) (requests_carried live.read ++ live.machine.written) (Some suspension)

-- how many turns have answered something: the first reads the input, and each further one answers a call
abbrev pub turns_answered : Option Input → (calls : ℕ) → ℕ
turns_answered None calls = calls
turns_answered (Some input) calls = suc calls

-- a turn that the attempt may make, where it holds no more whole messages than it has read: what it sends is of the run over these
abbrev pub IsTurnOf : Handler → (is_closed : Bool) → AttemptInRun → List Frame → Type 0
IsTurnOf next is_closed live sent = TurnsOfRun next live.start.given is_closed live.held live.read live.unread (requests_asked_by live) live.held sent

-- but for the one that proposes how a body has ended, the frames of a turn propose no outcome
abbrev pub ProposesAs : Turn → List Frame → Type 0
ProposesAs Turn.RanBody frames = Unit {0}
ProposesAs turn frames = outcomes_in frames ≡ []

-- they are those of requests, and no other
abbrev pub AsksAlone : List Frame → Type 0
AsksAlone frames = (more : List Request) × (frames ≡ map Frame.Command more)

-- there is none, or one that tells what the run over these arrivals waits for with just these requests
abbrev pub TellsAwaited : Handler → Invocation → List Arrival → List Request → List Frame → Type 0
TellsAwaited next given arrivals requests frames =
    (frames ≡ [])
    ⊎ ((awaited : AwaitTree NotificationId) × (frames ≡ Frame.AwaitingOn (Some awaited) ∷ []) × WaitsAll next given arrivals requests (Some (ForTree awaited)))

module _ {H : Type 0} (function : H → Handler) (next : Handler) (version : Version) (options : VMOptions) (is_closed : Bool) where
  -- the live attempt goes on, which has proposed these outcomes
  pub record GoesOnWith (live : AttemptInRun) (proposed : List (ℕ × NonEmptyValue)) (after : Attempt H) : Type 0 where
    pub bodies : HasBodies next live proposed after
    pub serves : Serves function next version options live is_closed after

  -- it does so behind a turn that has sent these frames, answered so many calls by then, with this machine, which has written what was sent
  pub record GoesOnBehind (live : AttemptInRun) (sent : List Frame) (calls : ℕ) (machine : Machine) (proposed : List (ℕ × NonEmptyValue)) (after : Attempt H) : Type 0 where
    pub bodies : HasBodies next (after_turn live sent calls machine) proposed after
    pub serves : Serves function next version options (after_turn live sent calls machine) is_closed after
    pub written : machine.written ≡ live.machine.written ++ requests_sent sent

  module _ (live : AttemptInRun) (before : Attempt H) where
    abbrev pub RunComes : Ending → Type 0
    RunComes ending = RunComesTo next live.start.given (arrivals_carried live.read) live.calls (requests_carried live.read ++ live.machine.written) ending

    -- its machine fails in the call that the handler makes next
    abbrev pub FailsFor : Error → List Sent → (after : Attempt H) → Type 0
    FailsFor error sent after = FailsBy next version live (next live.start.given.input before.answers) before.vm.state after.vm.state error sent

    -- it has proposed these outcomes, and where it executes the body of a run, that ends so
    module _ (proposed : List (ℕ × NonEmptyValue)) (ran : RunOutcome) where
      -- the run waits for arrivals alone: for no body that is to be executed
      abbrev pub RunWaits : Type 0
      RunWaits = WaitsForOthers next live.start.given (arrivals_carried live.read) live.calls (requests_carried live.read ++ live.machine.written) proposed

      -- it waits while its journal was not read, or while the run waits and more of its input can come
      abbrev pub MayWait : Type 0
      MayWait = (HasReadJournal live → ⊥) ⊎ ((is_closed ≡ false) × RunWaits)

      -- the body that is to be executed first has ended with an outcome, and that is proposed, of a run of which none was
      pub record RunsOne (sent : List Sent) (after : Attempt H) : Type 0 where
        pub body : Body
        pub first : ExecutesFirst next live.start.given (arrivals_carried live.read) live.calls (requests_carried live.read ++ live.machine.written) proposed body
        pub value : NonEmptyValue
        pub journal : HasReadJournal live
        pub shows : ShowsStart live.start
        pub outcome : OutcomeIs ran (tried_by live shows) value
        pub sends : map (frame_meant version) sent ≡ outcome_frame (version_number version) body.completion value ∷ []
        pub machine : Machine
        pub goes_on : GoesOnBehind live (map (frame_meant version) sent) live.calls machine (proposed ++ (body.completion, value) ∷ []) after
        pub input : after.input ≡ before.input

      -- the body that is to be executed first has ended without an outcome that is written
      abbrev pub FailsForBody : Error → List Sent → Type 0
      FailsForBody error sent = FailsByBody next live proposed version options ran before.vm.state error sent

      -- where it goes on it is live behind the turn, one answer later where it was answered; else it is over, and what it has written or answered
      -- tells why; what it answers with an error of its machine the machine keeps
      abbrev pub TurnsBehind : List Sent → Turn → (after : Attempt H) → Type 0
      TurnsBehind sent Turn.Answered after =
          (calls : ℕ) × (machine : Machine) × (turns_answered after.input calls ≡ suc (turns_answered before.input live.calls))
          × GoesOnBehind live (map (frame_meant version) sent) calls machine proposed after × AsksAlone (map (frame_meant version) sent)
      TurnsBehind sent Turn.RanBody after = RunsOne sent after
      TurnsBehind sent Turn.Waiting after =
          MayWait × ((machine : Machine) × GoesOnBehind live (map (frame_meant version) sent) live.calls machine proposed after × (after.input ≡ before.input))
          × TellsAwaited next live.start.given (arrivals_carried live.read) (requests_asked_by live) (map (frame_meant version) sent)
      TurnsBehind sent Turn.Suspended after =
          (is_closed ≡ true) × RunWaits × IsOver after × SuspendsWith next live (map (frame_meant version) sent)
      TurnsBehind sent Turn.Ended after = RunComes Ended × IsOver after × (map (frame_meant version) sent ≡ Frame.End ∷ [])
      TurnsBehind sent (Turn.Failed error) after = (FailsFor error sent after ⊎ FailsForBody error sent) × IsOver after × AnswersKept (Turn.Failed error) after

      -- what a turn has written are frames of the run, which the store reads as what they are meant as
      pub record TurnKeeps (turn : Turn) (after : Attempt H) : Type 0 where
        pub sent : List Sent
        pub fit : AllFit version sent
        -- requests among them are such as the store records, and their keys are text
        pub of_store : AllByRecursion IsOfStore sent
        pub output : output_of after ≡ output_of before ++ sent_stream version sent
        pub makes : IsTurnOf next is_closed live (map (frame_meant version) sent)
        pub proposes : ProposesAs turn (map (frame_meant version) sent)
        -- an error among them is the one that it has failed by
        pub errors : AllByRecursion (TellsErrorBy (version_number version) turn) (map (frame_meant version) sent)
        -- no error among them ends the invocation, but where its body has failed as a journal that does not match, and the options ask for that
        pub unfailed : MayNotEnd options ran → AllByRecursion IsNoFailure (map (frame_meant version) sent)
        pub behind : TurnsBehind sent turn after

module _ {H : Type 0} (function : H → Handler) (next : Handler) (version : Version) (options : VMOptions) where
  abbrev pub TurnServes : Type 0
  TurnServes = (is_closed : Bool) (live : AttemptInRun) (before : Attempt H) (proposed : List (ℕ × NonEmptyValue)) (ran : RunOutcome) (turn : Turn) (after : Attempt H)
      → options.signal_delivery ≡ Queued → HasBodies next live proposed before
      → Serves function next version options live (is_closed) before → Turns function ran before turn after
      → TurnKeeps function next version options is_closed live before proposed ran turn after

  -- an attempt whose turn fails is told of an internal error, of what is not supported, or by the body that it has executed: so where the body
  -- does not say so, never that its journal does not match
  abbrev pub TurnsMatch : Type 0
  TurnsMatch = (is_closed : Bool) (live : AttemptInRun) (before : Attempt H) (proposed : List (ℕ × NonEmptyValue)) (ran : RunOutcome) (error : Error) (after : Attempt H)
      → options.signal_delivery ≡ Queued → HasBodies next live proposed before
      → Serves function next version options live (is_closed) before → Turns function ran before (Turn.Failed error) after
      → (error.code.0 ≡ internal) ⊎ ((error.code.0 ≡ unsupported_feature) ⊎ IsBodyCode ran.result error.code.0)

  -- ---- turns one after the other, the first first

  -- each with how a body ends, where it executes one
  abbrev pub TurnsEach : List Turn → (before after : Attempt H) → Type 0
  TurnsEach [] before after = after ≡ before
  TurnsEach (turn ∷ turns) before after = (ran : RunOutcome) × (between : Attempt H) × Turns function ran before turn between × TurnsEach turns between after

  -- the attempt is live after all of them, each of which has answered something, or has executed a body
  pub record AnswersEach (is_closed : Bool) (live : AttemptInRun) (before : Attempt H) (proposed : List (ℕ × NonEmptyValue)) (turns : List Turn) (after : Attempt H) : Type 0 where
    pub now : AttemptInRun
    pub now_proposed : List (ℕ × NonEmptyValue)
    pub goes_on : GoesOnWith function next version options is_closed now now_proposed after
    pub answered : turns_answered after.input now.calls + length now_proposed ≡ (turns_answered before.input live.calls + length proposed) + length turns

  -- with the whole journal fed and the input closed each turn answers or executes a body, or the attempt is over
  abbrev pub TurnsAnswer : Type 0
  TurnsAnswer = (live : AttemptInRun) (turns : List Turn) (before : Attempt H) (proposed : List (ℕ × NonEmptyValue)) (after : Attempt H) → options.signal_delivery ≡ Queued → HasBodies next live proposed before → HasReadJournal live
      → Serves function next version options live true before → TurnsEach turns before after
      → IsOver after ⊎ AnswersEach true live before proposed turns after
