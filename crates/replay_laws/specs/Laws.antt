-- The laws of this crate.
use Rattle.std.specs.Prelude.{◌≡◌, ℕ, suc, Bool, true, false, List, [], ◌∷◌, ◌++◌, map}
use Rattle.std.specs.List.{AllByRecursion}
use Rattle.journal_model.specs.declared.call.Call.{Call}
use Rattle.journal_model.specs.declared.options.RunOptions.{RunOptions}
use Rattle.journal_model.specs.declared.options.SignalDelivery.TheVariants.{Queued}
use Rattle.journal_model.specs.declared.value.NonEmptyValue.{NonEmptyValue}
use Rattle.journal_model.specs.Notification.{Bytes, Text}
use Rattle.journal_model.specs.Request.{Request}
use Rattle.journal_model.specs.Run.{Handler, run}
use Rattle.journal_model.specs.Event.{Event, Frame}
use Rattle.journal_model.specs.Attempt.{input_bytes, is_input_closed}
use Rattle.journal_model.specs.Cause.{IsAccepted}
use Rattle.input_laws.specs.Message.{InputMessage, piece_of, arrivals_carried, requests_carried}
use Rattle.live_laws.specs.Live.{TurnsOfRun}
use Rattle.live_laws.specs.RequestsInFlight.{requests_sent, FollowsSo}
use Rattle.attempt_model.specs.Machine.{Machine, machine_at_start}
use Rattle.attempt_model.specs.Simulation.{AreOfKind, Fits, next_call, AreReflexive}
use Rattle.live_laws.specs.StartFrame.{AttemptStart}
use Rattle.live_laws.specs.MachinePosition.{IsInRun}
use Rattle.live_laws.specs.AskedArrivals.{are_by_text, AsksByText}
use Rattle.live_laws.specs.AttemptWithMachine.{AttemptInRun, attempt_begun, HasReadJournal, handed_bytes, after_reading, after_turn}
use Rattle.body_laws.specs.BodySimulation.{Among, has_arrived, count_proposed}
use Rattle.body_laws.specs.Bodies.{Body, bodies_of, Executor, executor_over, ExecutorReply, Answers, Executes, AwaitsTreeOf, AwaitsChildOf, Finishes, Fails, executor_reply, proposing}
use Rattle.replay_laws.specs.OutcomesInFlight.{outcomes_in}
use Rattle.replay_laws.specs.AttemptWithBodies.{reads_messages, AreCached, outcome_frame, IsLiveExecutor}
use Rattle.replay_laws.specs.ReplayedAttempt.{CanReplay, IsBehind, ComesAsAsked, requests_asked_by, IsReplayed}

-- ---- its begin

-- an attempt that is begun with a journal that can be replayed, of which the arrivals came as asked, has proposed nothing
abbrev pub ReplaysBegin : Type 0
ReplaysBegin = (next : Handler) (start : AttemptStart) → CanReplay next start
    → ComesAsAsked (arrivals_carried start.journal) [] (requests_carried start.journal) (arrivals_carried start.journal)
    → IsReplayed next (attempt_begun start) [] (executor_over (machine_at_start start.shown [] []))

-- ---- its input

-- it stays so, whatever is on its way from it, as more messages are to come that were asked for, as it is handed the next bytes of what is to
-- come, and as it reads: then each outcome that is acknowledged is cached
pub record StaysReplayed (next : Handler) (live : AttemptInRun) (proposed : List (ℕ × NonEmptyValue)) (e : Executor) : Type 0 where
  pub brings : (more : List InputMessage) (coming : List Frame) → AllByRecursion (IsBehind live.start.given.version proposed) more
      → ComesAsAsked (arrivals_carried live.start.journal) proposed (requests_asked_by live) (arrivals_carried (live.read ++ (live.unread ++ more)))
      → IsReplayed next (record live { unread = live.unread ++ more; coming = coming }) proposed e
  pub is_handed : (bytes rest : Bytes) → (live.held ++ bytes) ++ rest ≡ input_bytes (map piece_of live.unread) → IsReplayed next (handed_bytes live bytes) proposed e
  pub reads_start : live.bytes ≡ live.start.frame ++ live.held → IsReplayed next (record live { bytes = live.held }) proposed e
  pub reads : (some still : List InputMessage) (kept : Bytes) → live.bytes ≡ live.held → live.unread ≡ some ++ still → live.held ≡ input_bytes (map piece_of some) ++ kept
      → AreCached e some × IsReplayed next (after_reading live some still kept) proposed (reads_messages e some)
  -- and so is each that is acknowledged among all that it has still to read, handed to it or not
  pub cached : AreCached e live.unread

abbrev pub ReplaysStay : Type 0
ReplaysStay = (next : Handler) (live : AttemptInRun) (proposed : List (ℕ × NonEmptyValue)) (e : Executor) → IsReplayed next live proposed e → StaysReplayed next live proposed e

-- ---- its turns

-- where it has read its journal, its machine stands in the run; what it was fed fits, if signals wait in line, and is of its kind; and all
-- that its run has asked for so far is by keys that are text
pub record StandsReplayed (next : Handler) (live : AttemptInRun) : Type 0 where
  pub at : IsInRun next live.start.given live.read live.unread live.calls live.machine
  pub fits : live.start.given.options.signal_delivery ≡ Queued → Fits next live.start.given (requests_carried live.read) (arrivals_carried live.read)
  pub kinds : AreOfKind next live.start.given (arrivals_carried live.read) live.calls
  pub by_text : AsksByText next live.start.given (arrivals_carried live.read) live.calls

abbrev pub ReplaysStand : Type 0
ReplaysStand = (next : Handler) (live : AttemptInRun) (proposed : List (ℕ × NonEmptyValue)) (e : Executor) → IsReplayed next live proposed e → HasReadJournal live → StandsReplayed next live

-- a turn that goes on leaves it so, whatever it has sent beside: one that answers, if the requests that it has written are by keys that are
-- text; and one that executes a body, whose outcome it proposes
abbrev pub TurnsReplayed : Handler → AttemptInRun → List (ℕ × NonEmptyValue) → ExecutorReply → Type 0
TurnsReplayed next live proposed (Answers answer e) =
    (sent : List Frame) (written : List Request) → e.machine.written ≡ live.machine.written ++ written → are_by_text written ≡ true
    → IsReplayed next (after_turn live sent (suc live.calls) e.machine) proposed e
TurnsReplayed next live proposed (Executes body e) = (sent : List Frame) (value : NonEmptyValue)
    → IsReplayed next (after_turn live sent live.calls e.machine) (proposed ++ (body.completion, value) ∷ []) (proposing live.start.given.version e body value)
TurnsReplayed next live proposed (AwaitsTreeOf tree e) = (sent : List Frame) → IsReplayed next (after_turn live sent live.calls e.machine) proposed e
TurnsReplayed next live proposed (AwaitsChildOf child e) = (sent : List Frame) → IsReplayed next (after_turn live sent live.calls e.machine) proposed e
TurnsReplayed next live proposed (Finishes e) = Unit {0}
TurnsReplayed next live proposed (Fails fault) = Unit {0}

-- where signals wait in line
abbrev pub ReplaysTurn : Type 0
ReplaysTurn = (same_header : Call → Request → Request → Bool) (next : Handler) (live : AttemptInRun) (proposed : List (ℕ × NonEmptyValue)) (e : Executor) → AreReflexive same_header
    → live.start.given.options.signal_delivery ≡ Queued → IsReplayed next live proposed e → live.bytes ≡ live.held → HasReadJournal live
    → (at : IsInRun next live.start.given live.read live.unread live.calls live.machine)
    → TurnsReplayed next live proposed (executor_reply same_header live.start.given e (next_call next live.start.given at.stands.steps))

-- ---- an instance

-- the live attempt of a store, whose frames are on their way, replays its journal; where it is stopped or overtaken nothing more comes to it,
-- so it does still
abbrev pub LivesReplay : Type 0
LivesReplay = (next : Handler) (options : RunOptions) (fallback_seed : ℕ) (id : Text) (events : List Event) (live : AttemptInRun) (proposed : List (ℕ × NonEmptyValue)) (e : Executor) → IsAccepted events
    → IsLiveExecutor next options fallback_seed id events live proposed e → IsReplayed next live proposed e

-- It is the live attempt still, if it replays, with whatever bodies; so it is where it reads on, and behind a turn: a turn that proposes nothing, and one that proposes the
-- outcome of a body of the run, which has not come and was not proposed before. And a turn that it may make keeps the invocation in its run.
pub record LivesOn (next : Handler) (options : RunOptions) (fallback_seed : ℕ) (id : Text) (events : List Event) (live : AttemptInRun) (proposed : List (ℕ × NonEmptyValue)) : Type 0 where
  pub again : (e : Executor) → IsReplayed next live proposed e → IsLiveExecutor next options fallback_seed id events live proposed e
  pub reads : (some still : List InputMessage) (kept : Bytes) (e : Executor) → live.bytes ≡ live.held → live.unread ≡ some ++ still → live.held ≡ input_bytes (map piece_of some) ++ kept
      → IsReplayed next (after_reading live some still kept) proposed e → IsLiveExecutor next options fallback_seed id events (after_reading live some still kept) proposed e
  pub turns : (sent : List Frame) (calls : ℕ) (m : Machine) (e : Executor) → live.bytes ≡ live.held → outcomes_in sent ≡ [] → m.written ≡ live.machine.written ++ requests_sent sent
      → IsReplayed next (after_turn live sent calls m) proposed e → IsLiveExecutor next options fallback_seed id events (after_turn live sent calls m) proposed e
  pub proposes : (body : Body) (value : NonEmptyValue) (calls : ℕ) (m : Machine) (e : Executor) → live.bytes ≡ live.held
      → Among body (bodies_of (run next live.start.given (arrivals_carried live.read) live.calls).steps) → has_arrived (arrivals_carried live.read) body.completion ≡ false → count_proposed body.completion proposed ≡ 0
      → m.written ≡ live.machine.written ++ []
      → IsReplayed next (after_turn live (outcome_frame live.start.given.version body.completion value ∷ []) calls m) (proposed ++ (body.completion, value) ∷ []) e
      → IsLiveExecutor next options fallback_seed id events (after_turn live (outcome_frame live.start.given.version body.completion value ∷ []) calls m) (proposed ++ (body.completion, value) ∷ []) e
  pub follows : (sent : List Frame) → FollowsSo next live.start.given id events live.coming
      → TurnsOfRun next live.start.given (is_input_closed events id) live.held live.read live.unread (requests_asked_by live) live.held sent
      → FollowsSo next live.start.given id events (live.coming ++ sent)

abbrev pub LivesStay : Type 0
LivesStay = (next : Handler) (options : RunOptions) (fallback_seed : ℕ) (id : Text) (events : List Event) (live : AttemptInRun) (proposed : List (ℕ × NonEmptyValue)) (e : Executor) → IsAccepted events
    → IsLiveExecutor next options fallback_seed id events live proposed e → LivesOn next options fallback_seed id events live proposed
