-- The laws of this crate.
use Rattle.std.specs.Prelude.{◌≡◌, ◌≤◌, ◌⊎◌, ℕ, ◌+◌, Bool, true, false, List, [], ◌∷◌, ◌++◌, length, map, Some, None}
use Rattle.std.specs.List.{list_any}
use Rattle.journal_model.specs.declared.value.NonEmptyValue.{NonEmptyValue}
use Rattle.journal_model.specs.Notification.{Arrival}
use Rattle.journal_model.specs.AwaitTree.{AwaitTree}
use Rattle.journal_model.specs.declared.call.Call.{Call}
use Rattle.journal_model.specs.Value.{result_of_value}
use Rattle.journal_model.specs.Request.{Request}
use Rattle.journal_model.specs.State.{StartState}
use Rattle.journal_model.specs.Journal.{completes, completion}
use Rattle.journal_model.specs.Run.{Handler, Invocation, run_requests}
use Rattle.attempt_model.specs.Machine.{machine_at_start}
use Rattle.attempt_model.specs.Attempts.{AnswersFirst, EndedAs, RefusedAs}
use Rattle.attempt_model.specs.Simulation.{IsShown, ComesOnce, AreOfKind, Fits, next_call, AreReflexive, EndsWithRun}
use Rattle.body_laws.specs.Bodies.{Body, Executor, executor_over, reads_arrival, reads_outcome, after_acknowledgement, ExecutorReply, Answers, Executes, AwaitsTreeOf, AwaitsChildOf, Finishes, Fails, executor_reply, acknowledges, proposing, bodies_of, has_handle, suspends}
use Rattle.body_laws.specs.AttemptExecution.{BodyEnd, Happening, Comes, Acknowledges, Attempting, AttemptState, Live, Over, Misled, Turn, Answered, RanBody, Waiting, Suspended, Ended, Failed, turn_after_body, turn_reply, attempt_after, after_turns, arrivals_read, proposed_by, is_attempt_over, count_made}
use Rattle.body_laws.specs.BodySimulation.{Among, count_proposed, StandsWithBodies, ExecutesBody, WaitsWithBodies, WaitsForChildWithBodies, AnswersWithBodies, RepliesWithBodies, has_arrived}

-- ---- one step

-- a machine that was asked nothing stands with no bodies
abbrev pub BodiesBegin : Type 0
BodiesBegin = (handler : Handler) (given : Invocation) (start : StartState) (journal : List Request) (arrivals : List Arrival)
    → IsShown given.start journal start → StandsWithBodies handler given journal arrivals 0 [] (executor_over (machine_at_start start (map Some journal) arrivals))

-- an arrival for a body that is to be executed: none comes, since an outcome comes of what was executed alone
abbrev pub is_early : Executor → Arrival → Bool
is_early e arrival = list_any (λ body. completes body.completion arrival) e.left

-- one more arrival is read
abbrev pub BodiesRead : Type 0
BodiesRead = (handler : Handler) (given : Invocation) (journal : List Request) (arrivals : List Arrival) (calls : ℕ) (proposed : List (ℕ × NonEmptyValue)) (e : Executor) (arrival : Arrival)
    → is_early e arrival ≡ false → StandsWithBodies handler given journal arrivals calls proposed e
    → StandsWithBodies handler given journal (arrivals ++ arrival ∷ []) calls proposed (reads_arrival e arrival)

-- an outcome that was proposed is acknowledged, which has not come: it was cached, and is one more arrival
pub record ComesAsCached (handler : Handler) (given : Invocation) (journal : List Request) (arrivals : List Arrival) (calls : ℕ) (proposed : List (ℕ × NonEmptyValue)) (e : Executor) (n : ℕ) (value : NonEmptyValue) : Type 0 where
  pub told : after_acknowledgement e n ≡ Some (reads_outcome e n value)
  pub stands : StandsWithBodies handler given journal (arrivals ++ completion n (result_of_value value) ∷ []) calls proposed (reads_outcome e n value)

abbrev pub OutcomesCome : Type 0
OutcomesCome = (handler : Handler) (given : Invocation) (journal : List Request) (arrivals : List Arrival) (calls : ℕ) (proposed : List (ℕ × NonEmptyValue)) (e : Executor) (n : ℕ) (value : NonEmptyValue)
    → acknowledges given.version ≡ true → Among (n, value) proposed → ComesOnce handler given (arrivals ++ completion n (result_of_value value) ∷ [])
    → StandsWithBodies handler given journal arrivals calls proposed e → ComesAsCached handler given journal arrivals calls proposed e n value

-- an acknowledgement of what was not proposed, or before outcomes are acknowledged, is refused
abbrev pub OthersAreRefused : Type 0
OthersAreRefused = (handler : Handler) (given : Invocation) (journal : List Request) (arrivals : List Arrival) (calls : ℕ) (proposed : List (ℕ × NonEmptyValue)) (e : Executor) (n : ℕ)
    → ((value : NonEmptyValue) → acknowledges given.version ≡ true → Among (n, value) proposed → ⊥) → StandsWithBodies handler given journal arrivals calls proposed e → after_acknowledgement e n ≡ None

-- where what has come by now is of its kind, a call is answered as the run answers it, or executes a body that the run waits for
abbrev pub CallsSimulate : Type 0
CallsSimulate = (same_header : Call → Request → Request → Bool) (handler : Handler) (given : Invocation) (journal : List Request) (arrivals : List Arrival) (calls : ℕ) (proposed : List (ℕ × NonEmptyValue)) (e : Executor)
    → AreReflexive same_header → Fits handler given journal arrivals → AreOfKind handler given arrivals calls → (at : StandsWithBodies handler given journal arrivals calls proposed e)
    → RepliesWithBodies handler given journal arrivals calls proposed (executor_reply same_header given e (next_call handler given at.stands.steps))

-- where it suspends no body is being executed either, of what is waited for: each outcome has come or was proposed
abbrev pub SuspensionsLeaveNone : Type 0
SuspensionsLeaveNone = (handler : Handler) (given : Invocation) (journal : List Request) (arrivals : List Arrival) (calls : ℕ) (proposed : List (ℕ × NonEmptyValue)) (tree : AwaitTree ℕ) (e : Executor) (is_closed : Bool)
    (waits : WaitsWithBodies handler given journal arrivals calls proposed tree e) → suspends is_closed (AwaitsTreeOf tree e) ≡ true → (body : Body) → Among body (bodies_of waits.waits.stands.steps)
    → has_handle body.handle tree ≡ true → (has_arrived arrivals body.completion ≡ true) ⊎ (1 ≤ count_proposed body.completion proposed)

-- the outcome of a body is proposed that is to be executed, or is being executed
abbrev pub OutcomesAreProposed : Type 0
OutcomesAreProposed = (handler : Handler) (given : Invocation) (journal : List Request) (arrivals : List Arrival) (calls : ℕ) (proposed : List (ℕ × NonEmptyValue)) (e : Executor) (body : Body) (value : NonEmptyValue)
    → Among body e.left ⊎ Among body e.executing → StandsWithBodies handler given journal arrivals calls proposed e
    → StandsWithBodies handler given journal arrivals calls (proposed ++ (body.completion, value) ∷ []) (proposing given.version e body value)

-- the bodies of a run are of the runs that it has requested
abbrev pub BodiesAreRequested : Type 0
BodiesAreRequested = (handler : Handler) (given : Invocation) (journal : List Request) (arrivals : List Arrival) (calls : ℕ) (proposed : List (ℕ × NonEmptyValue)) (e : Executor)
    (at : StandsWithBodies handler given journal arrivals calls proposed e) (body : Body) → Among body (bodies_of at.stands.steps)
    → (name : List ℕ) × Among (Request.Run body.completion name) (run_requests handler given arrivals calls)

-- ---- a whole attempt

-- an attempt goes on: its answers are the run's first, its bodies stand, and none is being executed between turns
pub record GoesOnWithBodies (handler : Handler) (given : Invocation) (journal : List Request) (arrivals : List Arrival) (a : Attempting) : Type 0 where
  pub first : AnswersFirst handler given journal arrivals a.answers a.executor.machine
  pub at : StandsWithBodies handler given journal arrivals first.calls a.proposed a.executor
  pub idle : a.executor.executing ≡ []

-- it was over by a turn over the first of the arrivals: what this turn says
pub record OverAt (arrivals : List Arrival) (Says : List Arrival → ℕ → Type 0) : Type 0 where
  pub some : List Arrival
  pub later : List Arrival
  pub read : arrivals ≡ some ++ later
  pub calls : ℕ
  pub says : Says some calls

module _ (handler : Handler) (given : Invocation) (journal : List Request) where
  -- over by a suspension, in which nothing is to be executed; by its end; by a call that the run has refused; or by a body that it has executed
  abbrev pub OverAs : List Arrival → Attempting → ExecutorReply → Type 0
  OverAs arrivals a (Answers answer e) = ⊥
  OverAs arrivals a (Executes body e) = OverAt arrivals (λ some calls. ExecutesBody handler given journal some calls a.proposed body e)
  OverAs arrivals a (AwaitsTreeOf tree e) = (a.is_closed ≡ true) × OverAt arrivals (λ some calls. WaitsWithBodies handler given journal some calls a.proposed tree e)
  OverAs arrivals a (AwaitsChildOf child e) = (a.is_closed ≡ true) × OverAt arrivals (λ some calls. WaitsForChildWithBodies handler given journal some calls a.proposed child e)
  OverAs arrivals a (Finishes e) = EndedAs handler given journal arrivals e.machine
  OverAs arrivals a (Fails fault) = RefusedAs handler given arrivals fault

  abbrev pub AgreesWithBodies : List Arrival → AttemptState → Type 0
  AgreesWithBodies arrivals (Live a) = GoesOnWithBodies handler given journal arrivals a
  AgreesWithBodies arrivals (Over a reply) = ((n : ℕ) → count_proposed n a.proposed ≤ 1) × OverAs arrivals a reply
  AgreesWithBodies arrivals (Misled a) = ⊥

-- what is fed: an arrival is of no body that is to be executed, and what is acknowledged was proposed
abbrev pub MayCome : ℕ → Happening → AttemptState → Type 0
MayCome version (Comes arrival) (Live a) = is_early a.executor arrival ≡ false
MayCome version (Acknowledges n value) (Live a) = (acknowledges version ≡ true) × Among (n, value) a.proposed
MayCome version happening state = Unit {0}

abbrev pub AllMayCome : (Call → Request → Request → Bool) → Handler → Invocation → Executor → List Happening → Type 0
AllMayCome same_header handler given e [] = Unit {0}
AllMayCome same_header handler given e (happening ∷ earlier) =
    MayCome given.version happening (attempt_after same_header handler given e earlier) × AllMayCome same_header handler given e earlier

-- any number of turns between any arrivals and acknowledgements: the attempt follows the run over what it has read, an acknowledged outcome
-- being an arrival, and executes bodies of runs that the run has called, each once, none whose outcome has come
abbrev pub AttemptsFollowWithBodies : Type 0
AttemptsFollowWithBodies = (same_header : Call → Request → Request → Bool) (handler : Handler) (given : Invocation) (start : StartState) (journal : List Request) (first : List Arrival) (happened : List Happening)
    → AreReflexive same_header → IsShown given.start journal start → Fits handler given journal first → ComesOnce handler given (arrivals_read first happened)
    → ((some later : List Arrival) → some ++ later ≡ arrivals_read first happened → (calls : ℕ) → AreOfKind handler given some calls)
    → AllMayCome same_header handler given (executor_over (machine_at_start start (map Some journal) first)) happened
    → AgreesWithBodies handler given journal (arrivals_read first happened) (attempt_after same_header handler given (executor_over (machine_at_start start (map Some journal) first)) happened)

-- what a turn says, by what it comes to and its reply: the answer is the run's next; the body is one that the run waits for; Waiting and
-- Suspended are of a run that waits, with open and with closed input, and of what it waits for no body is to be executed; Ended is of a run
-- that has ended, and Failed of a call that the run has refused, or of a body
abbrev pub TurnTells : Handler → Invocation → List Request → List Arrival → ℕ → List (ℕ × NonEmptyValue) → (is_closed : Bool) → Turn → ExecutorReply → Type 0
TurnTells handler given journal arrivals calls proposed is_closed Answered (Answers answer e) = AnswersWithBodies handler given journal arrivals calls proposed answer e
TurnTells handler given journal arrivals calls proposed is_closed RanBody (Executes body e) = ExecutesBody handler given journal arrivals calls proposed body e
TurnTells handler given journal arrivals calls proposed is_closed Waiting (AwaitsTreeOf tree e) = (is_closed ≡ false) × WaitsWithBodies handler given journal arrivals calls proposed tree e
TurnTells handler given journal arrivals calls proposed is_closed Waiting (AwaitsChildOf child e) = (is_closed ≡ false) × WaitsForChildWithBodies handler given journal arrivals calls proposed child e
TurnTells handler given journal arrivals calls proposed is_closed Suspended (AwaitsTreeOf tree e) = (is_closed ≡ true) × WaitsWithBodies handler given journal arrivals calls proposed tree e
TurnTells handler given journal arrivals calls proposed is_closed Suspended (AwaitsChildOf child e) = (is_closed ≡ true) × WaitsForChildWithBodies handler given journal arrivals calls proposed child e
TurnTells handler given journal arrivals calls proposed is_closed Ended (Finishes e) = EndsWithRun handler given journal arrivals calls e.machine
TurnTells handler given journal arrivals calls proposed is_closed Failed (Executes body e) = ExecutesBody handler given journal arrivals calls proposed body e
TurnTells handler given journal arrivals calls proposed is_closed Failed (Fails fault) = RepliesWithBodies handler given journal arrivals calls proposed (Fails fault)
TurnTells handler given journal arrivals calls proposed is_closed _ _ = ⊥

abbrev pub TurnsTell : Type 0
TurnsTell = (same_header : Call → Request → Request → Bool) (handler : Handler) (given : Invocation) (journal : List Request) (arrivals : List Arrival) (a : Attempting) (end : BodyEnd)
    → AreReflexive same_header → Fits handler given journal arrivals → (f : GoesOnWithBodies handler given journal arrivals a) → AreOfKind handler given arrivals f.first.calls
    → TurnTells handler given journal arrivals f.first.calls a.proposed a.is_closed (turn_after_body end a.is_closed (turn_reply same_header handler given a)) (turn_reply same_header handler given a)

-- no attempt executes a run twice: of no completion are two outcomes proposed
abbrev pub ProposesOnce : Type 0
ProposesOnce = (handler : Handler) (given : Invocation) (journal : List Request) (arrivals : List Arrival) (state : AttemptState) → AgreesWithBodies handler given journal arrivals state
    → (n : ℕ) → count_proposed n (proposed_by state) ≤ 1

-- with its input closed an attempt answers or executes in each turn, or is over
abbrev pub ClosedTurnsProgress : Type 0
ClosedTurnsProgress = (same_header : Call → Request → Request → Bool) (handler : Handler) (given : Invocation) (a : Attempting) (ends : List BodyEnd) → a.is_closed ≡ true → a.executor.executing ≡ []
    → let after = after_turns same_header handler given (Live a) ends in
    (is_attempt_over after ≡ true) ⊎ (count_made after ≡ length ends + count_made (Live a))
