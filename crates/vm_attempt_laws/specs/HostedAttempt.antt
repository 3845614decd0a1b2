-- An attempt of a host, without a store: what it writes and what its turns answer, whatever the host does with it and in whatever order.
use Rattle.std.specs.Prelude.{◌≡◌, ◌⊎◌, ℕ, true, false, List, [], ◌∷◌, ◌++◌, map, Option, Some, None, Result, Ok}
use Rattle.std.specs.List.{AllByRecursion}
use Rattle.std.specs.declared.alloc.AllocError.{AllocError}
use Rattle.journal_model.specs.Event.{Suspension}
use Rattle.live_laws.specs.RequestsInFlight.{SendsOfRun}
use Rattle.vm_attempt.specs.Attempt.{ClosesInput}
use Rattle.vm_attempt_laws.specs.ArrivalsCome.{HasJournal}
use Rattle.vm_attempt_laws.specs.AttemptInvariants.{MayCome, TellsErrorBy}
use Rattle.vm_attempt_laws.specs.AttemptSimulation.{IsFedBy}
use Rattle.vm_attempt_laws.specs.Attempts.{Attempt, Feeds, IsBegun, output_of, TakesOutput, Turn, Turns}
use Rattle.vm_attempt_laws.specs.Bodies.{CanReplay, ComesAsAsked, IsBehind, NonEmptyValue, outcome_frame, RunOutcome}
use Rattle.vm_attempt_laws.specs.InputOfAttempt.{CanBegin, IsRunOf}
use Rattle.vm_attempt_laws.specs.OutputOfAttempt.{AllFit, frame_meant, Sent, sent_stream}
use Rattle.vm_attempt_laws.specs.TurnReports.{arrivals_told, Told, told_nothing, TurnTellsNow}
use Rattle.vm_attempt_laws.specs.TurnsInRun.{AsksAlone, ProposesAs, TellsAwaited}
use Rattle.vm_attempt_laws.specs.Words.{arrivals_carried, attempt_begun, AttemptStart, Bytes, CarriesInput, Frame, Handler, input_bytes, InputMessage, IsNote, piece_of, Queued, Request, requests_carried, requests_sent, Version, version_number, VMOptions}

-- ---- what a host does

-- Messages are to come, whose bytes are fed then in any cut. A turn is made, with how a body ends if it executes one, and has answered this.
pub data HostStep : Type 0 where
  Brought : List InputMessage → HostStep
  Fed : Bytes → HostStep
  Closed : HostStep
  Taken : (max : ℕ) → Result Bytes AllocError → HostStep
  Turned : RunOutcome → Turn → HostStep

-- what was told of the attempt so far, which messages were to come behind its journal, and what it has written
pub record Hosted : Type 0 where
  pub told : Told
  pub brought : List InputMessage
  pub written : List Sent

-- it was fed its start frame
abbrev pub hosted_begun : AttemptStart → Hosted
hosted_begun start = record { told = record (told_nothing start.new.version) { bytes = start.frame }; brought = []; written = [] }

-- Signals wait in line, and its journal is one that its handler has written, with arrivals as they were asked for, all as the protocol can carry
-- it. A new invocation has none.
pub record CanBeHosted (next : Handler) (version : Version) (options : VMOptions) (start : AttemptStart) : Type 0 where
  pub queued : options.signal_delivery ≡ Queued
  pub of_run : IsRunOf start version options
  pub replays : CanReplay next start
  pub begins : CanBegin start replays.shows
  pub come : ComesAsAsked (arrivals_carried start.journal) [] (requests_carried start.journal) (arrivals_carried start.journal)
  pub fed : IsFedBy (attempt_begun start)

module _ (version : Version) (start : AttemptStart) (host : Hosted) where
  -- what is asked for: the requests of its journal, and those that it has written
  abbrev pub requests_asked : List Request
  requests_asked = requests_carried start.journal ++ requests_sent (map (frame_meant version) host.written)

  -- ---- what it may be fed

  -- arrivals that were asked for by now, as the protocol can carry them, and acknowledgements of outcomes that it has proposed
  pub record MayBeBrought (more : List InputMessage) : Type 0 where
    pub behind : AllByRecursion (IsBehind start.given.version host.told.proposed) more
    pub come : ComesAsAsked (arrivals_carried start.journal) host.told.proposed requests_asked (arrivals_carried (start.journal ++ (host.brought ++ more)))
    pub may : AllByRecursion MayCome more

  -- the next bytes of what is to come, while its input is open
  pub record AreNext (bytes : Bytes) : Type 0 where
    pub opened : host.told.is_closed ≡ false
    pub rest : Bytes
    pub parts : (host.told.bytes ++ bytes) ++ rest ≡ start.frame ++ input_bytes (map piece_of (CarriesInput start.new ∷ (start.journal ++ host.brought)))

  -- ---- what it writes

  -- A close writes nothing once its journal has come; else the error by which it fails.
  pub record ClosesSo (more : List Sent) : Type 0 where
    pub fit : AllFit version more
    pub notes : AllByRecursion IsNote (map (frame_meant version) more)
    pub early : (more ≡ []) ⊎ (HasJournal start host.told.bytes → ⊥)

  -- where it suspends, ends or has executed a body, it writes the one frame that tells so; where it has answered requests alone; where it waits
  -- nothing, or what the run waits for over the arrivals that have come; and where it fails no outcome of a body
  abbrev pub WritesBy : Handler → Turn → List Frame → (now : Told) → Type 0
  WritesBy next Turn.Suspended frames now = (suspension : Suspension) × (frames ≡ Frame.Suspend (Some suspension) ∷ [])
  WritesBy next Turn.Ended frames now = frames ≡ Frame.End ∷ []
  WritesBy next Turn.RanBody frames now =
      (completion : ℕ) × (value : NonEmptyValue) × (frames ≡ outcome_frame (version_number version) completion value ∷ []) × (now.proposed ≡ host.told.proposed ++ (completion, value) ∷ [])
  WritesBy next Turn.Answered frames now = AsksAlone frames
  WritesBy next Turn.Waiting frames now = TellsAwaited next start.given (arrivals_told start host.told) requests_asked frames
  WritesBy next turn frames now = ProposesAs turn frames

  -- one that is over writes nothing more, and neither does one that fails since there was no memory for its input, or since that was closed early
  abbrev pub WritesWhere : Handler → Option Turn → Turn → List Sent → (now : Told) → Type 0
  WritesWhere next (Some last) turn more now = more ≡ []
  WritesWhere next None turn more now = WritesBy next turn (map (frame_meant version) more) now

  -- A turn tells where the run stands over the arrivals that have come, and what it has written is of that run: each request that it writes is,
  -- behind all that was asked for by then, a beginning of the requests that the run makes over these arrivals; where it suspends and where it
  -- ends they are all of them.
  pub record TurnsSo (next : Handler) (ran : RunOutcome) (turn : Turn) (more : List Sent) (now : Told) : Type 0 where
    pub tells : TurnTellsNow next start host.told host.told.over ran turn now
    pub fit : AllFit version more
    pub of_run : SendsOfRun next start.given (arrivals_told start host.told) host.told.is_closed requests_asked (map (frame_meant version) more)
    pub writes : WritesWhere next host.told.over turn more now
    -- an error among its frames is the one that it has failed by
    pub errors : AllByRecursion (TellsErrorBy (version_number version) turn) (map (frame_meant version) more)

module _ {H : Type 0} (function : H → Handler) (next : Handler) (version : Version) (start : AttemptStart) where
  -- it has written this, behind what it had written
  abbrev pub WritesMore : (before after : Attempt H) → List Sent → Type 0
  WritesMore before after more = output_of after ≡ output_of before ++ sent_stream version more

  -- So it is of each of these steps, one after another, as long as what it is fed is as it was asked for.
  abbrev pub FollowsHost : List HostStep → Hosted → Attempt H → Type 0
  FollowsHost [] host a = Unit {0}
  FollowsHost (Brought messages ∷ steps) host a = MayBeBrought version start host messages → FollowsHost steps (record host { brought = host.brought ++ messages }) a
  FollowsHost (Fed bytes ∷ steps) host a = (after : Attempt H) → Feeds bytes a after → AreNext version start host bytes
      → WritesMore a after [] × FollowsHost steps (record host { told = record host.told { bytes = host.told.bytes ++ bytes } }) after
  FollowsHost (Closed ∷ steps) host a = (after : Attempt H) → ClosesInput a after
      → (more : List Sent) × ClosesSo version start host more × WritesMore a after more
      × FollowsHost steps (record host { told = record host.told { is_closed = true }; written = host.written ++ more }) after
  FollowsHost (Taken max result ∷ steps) host a = (after : Attempt H) → TakesOutput max a result after → FollowsHost steps host after
  FollowsHost (Turned ran turn ∷ steps) host a = (after : Attempt H) → Turns function ran a turn after
      → (more : List Sent) × (now : Told) × TurnsSo version start host next ran turn more now × WritesMore a after more
      × FollowsHost steps (record host { told = now; written = host.written ++ more }) after

-- A new attempt that is fed its start frame follows the run of its handler, whatever is done with it.
abbrev pub AttemptsFollow : {H : Type 0} → (function : H → Handler) → Handler → Version → VMOptions → Type 0
AttemptsFollow {H} function next version options =
    (start : AttemptStart) (handler : H) (new fed : Attempt H) (steps : List HostStep) → CanBeHosted next version options start → function handler ≡ next
    → IsBegun version options handler (Ok new) → Feeds start.frame new fed → (output_of fed ≡ []) × FollowsHost function next version start steps (hosted_begun start) fed
