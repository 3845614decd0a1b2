-- The live attempt with the bodies of its runs, between turns.
use Rattle.std.specs.Prelude.{◌≡◌, ◌⊎◌, ℕ, true, false, List, [], ◌∷◌, ◌++◌, take, Some, None}
use Rattle.std.specs.List.{AllByRecursion}
use Rattle.journal_model.specs.declared.invocation.NewInvocation.{NewInvocation}
use Rattle.journal_model.specs.declared.options.RunOptions.{RunOptions}
use Rattle.journal_model.specs.declared.value.NonEmptyValue.{NonEmptyValue}
use Rattle.journal_model.specs.Notification.{Text}
use Rattle.journal_model.specs.Run.{Handler, run}
use Rattle.journal_model.specs.Event.{Event, Frame}
use Rattle.journal_model.specs.Journal.{Recorded, begins, starting_state, invocation_begun, entries_of}
use Rattle.journal_model.specs.Attempt.{begins_attempt, bytes_asked, input_left}
use Rattle.journal_model.specs.Cause.{IsAccepted}
use Rattle.journal_model.specs.Headline.{run_of}
use Rattle.input_laws.specs.Message.{InputMessage, CarriesInput, CarriesRequest, CarriesArrival, CarriesOutcome, arrivals_carried, IsBroughtBy}
use Rattle.run_laws.specs.HeldInvocations.{Holds}
use Rattle.live_laws.specs.BegunAttempts.{IsProposed}
use Rattle.live_laws.specs.RequestsInFlight.{PassesOn}
use Rattle.attempt_model.specs.Machine.{machine_at_start}
use Rattle.attempt_model.specs.Attempts.{with_entry}
use Rattle.live_laws.specs.StartFrame.{start_after}
use Rattle.live_laws.specs.AskedArrivals.{are_by_text}
use Rattle.live_laws.specs.AttemptWithMachine.{AttemptInRun, attempt_begun, HasReadJournal, IsLiveMachine, handed_bytes}
use Rattle.body_laws.specs.Bodies.{Executor, executor_over, reads_arrival, reads_outcome, acknowledges}
use Rattle.body_laws.specs.BodySimulation.{Among, BodiesStand}
use Rattle.replay_laws.specs.OutcomesInFlight.{OutcomesStand}

-- ---- reading

abbrev pub reads_message : Executor → InputMessage → Executor
reads_message e (CarriesInput new) = e
reads_message e (CarriesRequest request) = record e { machine = with_entry e.machine (Recorded request) }
reads_message e (CarriesArrival type arrival) = reads_arrival e arrival
reads_message e (CarriesOutcome number value) = reads_outcome e number value

abbrev pub reads_messages : Executor → List InputMessage → Executor
reads_messages e [] = e
reads_messages e (message ∷ messages) = reads_messages (reads_message e message) messages

-- an acknowledgement has the number alone: what it acknowledges is cached, as it was recorded
abbrev pub AreCached : Executor → List InputMessage → Type 0
AreCached e [] = Unit {0}
AreCached e (CarriesOutcome number value ∷ messages) = (e.cached number ≡ Some value) × AreCached (reads_outcome e number value) messages
AreCached e (message ∷ messages) = AreCached (reads_message e message) messages

-- ---- the live attempt

-- the live attempt with its bodies, which has proposed these outcomes: it was asked something only once it has read its journal
pub record IsLiveExecutor (next : Handler) (options : RunOptions) (fallback_seed : ℕ) (id : Text) (events : List Event) (live : AttemptInRun) (proposed : List (ℕ × NonEmptyValue)) (e : Executor) : Type 0 where
  pub is_live : IsLiveMachine next options fallback_seed id events live
  pub machine : e.machine ≡ live.machine
  pub idle : e.executing ≡ []
  pub bodies : BodiesStand live.start.given.version (run next live.start.given (arrivals_carried live.read) live.calls).steps (arrivals_carried live.read) proposed e
  pub asked : (live.calls ≡ 0) ⊎ HasReadJournal live
  -- what it has written asks for state, and changes it, by keys that are text
  pub texts : are_by_text live.machine.written ≡ true
  pub outcomes : OutcomesStand events id (arrivals_carried live.start.journal) proposed live.coming
  pub told : (n : ℕ) (value : NonEmptyValue) → IsProposed live.proposed (n, value) → (acknowledges live.start.given.version ≡ true) × Among (n, value) proposed

abbrev pub ExecutorsBegin : Type 0
ExecutorsBegin = (next : Handler) (options : RunOptions) (fallback_seed : ℕ) (id : Text) (now : ℕ) (events : List Event) (new : NewInvocation) → IsAccepted (Event.Begin id now ∷ events)
    → invocation_begun events id ≡ Some new → Holds next (run_of options fallback_seed new (starting_state events id)) id events
    → IsLiveExecutor next options fallback_seed id (Event.Begin id now ∷ events) (attempt_begun (start_after options fallback_seed events id now new)) []
    (executor_over (machine_at_start (start_after options fallback_seed events id now new).shown [] []))

-- it stays so, whatever events bring and hand to it, and as it reads its start frame
pub record StaysWithBodies (next : Handler) (options : RunOptions) (fallback_seed : ℕ) (id : Text) (events : List Event) (live : AttemptInRun) (proposed : List (ℕ × NonEmptyValue)) (e : Executor) : Type 0 where
  pub brings : (event : Event) (coming : List Frame) → IsAccepted (event ∷ events) → begins id event ≡ false → begins_attempt id event ≡ false → bytes_asked id event ≡ None → PassesOn id event live.coming coming
      → (more : List InputMessage) × AllByRecursion (IsBroughtBy (entries_of (event ∷ events) id) id event) more
      × IsLiveExecutor next options fallback_seed id (event ∷ events) (record live { unread = live.unread ++ more; coming = coming }) proposed e
  pub is_handed : (attempt most : ℕ) → IsAccepted (Event.Feed id attempt most ∷ events)
      → IsLiveExecutor next options fallback_seed id (Event.Feed id attempt most ∷ events) (handed_bytes live (take most (input_left events id))) proposed e
  pub reads_start : live.bytes ≡ live.start.frame ++ live.held → IsLiveExecutor next options fallback_seed id events (record live { bytes = live.held }) proposed e

abbrev pub ExecutorsStayLive : Type 0
ExecutorsStayLive = (next : Handler) (options : RunOptions) (fallback_seed : ℕ) (id : Text) (events : List Event) (live : AttemptInRun) (proposed : List (ℕ × NonEmptyValue)) (e : Executor) → IsAccepted events
    → IsLiveExecutor next options fallback_seed id events live proposed e → StaysWithBodies next options fallback_seed id events live proposed e

-- ---- turns

-- the frame by which the outcome of a body is proposed
abbrev pub outcome_frame : ℕ → ℕ → NonEmptyValue → Frame
outcome_frame version n value = Frame.RunOutcome n value (acknowledges version)
