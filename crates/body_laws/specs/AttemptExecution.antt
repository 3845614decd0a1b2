-- A whole attempt that executes bodies of runs: in each turn it asks its handler, and carries the call out or executes a body.
use Rattle.std.specs.Prelude.{ℕ, ◌+◌, Bool, true, false, if◌then◌else◌, List, [], ◌∷◌, ◌++◌, length, Option, Some, None}
use Rattle.journal_model.specs.declared.value.NonEmptyValue.{NonEmptyValue}
use Rattle.journal_model.specs.Notification.{Arrival}
use Rattle.journal_model.specs.declared.call.Call.{Call}
use Rattle.journal_model.specs.declared.call.Answer.{Answer}
use Rattle.journal_model.specs.Value.{result_of_value}
use Rattle.journal_model.specs.Request.{Request}
use Rattle.journal_model.specs.Journal.{completion}
use Rattle.journal_model.specs.Run.{Handler, Invocation}
use Rattle.body_laws.specs.Bodies.{Body, Executor, reads_arrival, after_acknowledgement, ExecutorReply, Answers, Executes, AwaitsTreeOf, AwaitsChildOf, Finishes, Fails, executor_reply, suspends, proposing}

-- why a body fails its attempt: it is to be executed again, after an interval if there is one; its invocation is to be paused; or what it
-- came to is refused by the version
pub data BodyFailure : Type 0 where
  Retried : (interval : Option ℕ) → BodyFailure
  Paused : BodyFailure
  RefusedByVersion : BodyFailure

-- what a body came to: an outcome that is proposed, or the attempt fails by it
pub data BodyEnd : Type 0 where
  Proposes : NonEmptyValue → BodyEnd
  FailsAttempt : BodyFailure → BodyEnd

-- what happens to an attempt whose journal was read; a turn is given what a body comes to, which matters only where it executes one
pub data Happening : Type 0 where
  Comes : Arrival → Happening
  -- the acknowledgement of an outcome, with the value that was recorded, which its frame does not hold
  Acknowledges : ℕ → NonEmptyValue → Happening
  Closes : Happening
  Turns : BodyEnd → Happening

-- the answers that were given, and the outcomes that were proposed
pub record Attempting : Type 0 where
  pub answers : List Answer
  pub proposed : List (ℕ × NonEmptyValue)
  pub executor : Executor
  pub is_closed : Bool

pub data AttemptState : Type 0 where
  Live : Attempting → AttemptState
  -- over by what its last turn came to; where that is a body that was handed out, the body has failed it
  Over : Attempting → ExecutorReply → AttemptState
  -- over, since an outcome was acknowledged that it has not proposed
  Misled : Attempting → AttemptState

-- ---- what comes

abbrev pub attempt_with_arrival : Arrival → AttemptState → AttemptState
attempt_with_arrival arrival (Live a) = Live (record a { executor = reads_arrival a.executor arrival })
attempt_with_arrival arrival (Over a reply) = Over a reply
attempt_with_arrival arrival (Misled a) = Misled a

abbrev pub attempt_told : Attempting → Option Executor → AttemptState
attempt_told a None = Misled a
attempt_told a (Some e) = Live (record a { executor = e })

abbrev pub attempt_acknowledged : ℕ → AttemptState → AttemptState
attempt_acknowledged n (Live a) = attempt_told a (after_acknowledgement a.executor n)
attempt_acknowledged n (Over a reply) = Over a reply
attempt_acknowledged n (Misled a) = Misled a

abbrev pub attempt_closed : AttemptState → AttemptState
attempt_closed (Live a) = Live (record a { is_closed = true })
attempt_closed (Over a reply) = Over a reply
attempt_closed (Misled a) = Misled a

-- ---- a turn

abbrev pub with_executor : Attempting → Executor → Attempting
with_executor a e = record a { executor = e }

-- a body is executed, and its outcome proposed
abbrev pub with_body_outcome : ℕ → Attempting → Body → NonEmptyValue → Executor → Attempting
with_body_outcome version a body value e =
    record { answers = a.answers; proposed = a.proposed ++ (body.completion, value) ∷ []; executor = proposing version e body value; is_closed = a.is_closed }

abbrev pub waits_on : Attempting → ExecutorReply → Executor → (is_suspended : Bool) → AttemptState
waits_on a reply e true = Over a reply
waits_on a reply e false = Live (with_executor a e)

abbrev pub after_body : ℕ → Attempting → Body → Executor → BodyEnd → AttemptState
after_body version a body e (Proposes value) = Live (with_body_outcome version a body value e)
after_body version a body e (FailsAttempt failure) = Over a (Executes body e)

abbrev pub attempt_after_reply : ℕ → BodyEnd → Attempting → ExecutorReply → AttemptState
attempt_after_reply version end a (Answers answer e) = Live (record { answers = a.answers ++ answer ∷ []; proposed = a.proposed; executor = e; is_closed = a.is_closed })
attempt_after_reply version end a (Executes body e) = after_body version a body e end
attempt_after_reply version end a (AwaitsTreeOf tree e) = waits_on a (AwaitsTreeOf tree e) e (suspends a.is_closed (AwaitsTreeOf tree e))
attempt_after_reply version end a (AwaitsChildOf child e) = waits_on a (AwaitsChildOf child e) e a.is_closed
attempt_after_reply version end a (Finishes e) = Over a (Finishes e)
attempt_after_reply version end a (Fails fault) = Over a (Fails fault)

-- what a turn of a live attempt comes to
pub data Turn : Type 0 where
  Answered : Turn
  RanBody : Turn
  Waiting : Turn
  Suspended : Turn
  Ended : Turn
  Failed : Turn

abbrev pub turn_of_body : BodyEnd → Turn
turn_of_body (Proposes value) = RanBody
turn_of_body (FailsAttempt failure) = Failed

abbrev pub turn_after_body : BodyEnd → (is_closed : Bool) → ExecutorReply → Turn
turn_after_body end is_closed (Answers answer e) = Answered
turn_after_body end is_closed (Executes body e) = turn_of_body end
turn_after_body end is_closed (AwaitsTreeOf tree e) = if suspends is_closed (AwaitsTreeOf tree e) then Suspended else Waiting
turn_after_body end is_closed (AwaitsChildOf child e) = if is_closed then Suspended else Waiting
turn_after_body end is_closed (Finishes e) = Ended
turn_after_body end is_closed (Fails fault) = Failed

module _ (same_header : Call → Request → Request → Bool) (handler : Handler) (given : Invocation) where
  abbrev pub turn_reply : Attempting → ExecutorReply
  turn_reply a = executor_reply same_header given a.executor (handler given.input a.answers)

  abbrev pub attempt_after_turn : BodyEnd → AttemptState → AttemptState
  attempt_after_turn end (Live a) = attempt_after_reply given.version end a (turn_reply a)
  attempt_after_turn end (Over a reply) = Over a reply
  attempt_after_turn end (Misled a) = Misled a

  -- the last happening first
  abbrev pub attempt_after : Executor → List Happening → AttemptState
  attempt_after e [] = Live (record { answers = []; proposed = []; executor = e; is_closed = false })
  attempt_after e (Comes arrival ∷ earlier) = attempt_with_arrival arrival (attempt_after e earlier)
  attempt_after e (Acknowledges n value ∷ earlier) = attempt_acknowledged n (attempt_after e earlier)
  attempt_after e (Closes ∷ earlier) = attempt_closed (attempt_after e earlier)
  attempt_after e (Turns end ∷ earlier) = attempt_after_turn end (attempt_after e earlier)

  -- turns alone, the last one first
  abbrev pub after_turns : AttemptState → List BodyEnd → AttemptState
  after_turns state [] = state
  after_turns state (end ∷ earlier) = attempt_after_turn end (after_turns state earlier)

-- the arrivals that were read: an acknowledged outcome is one
abbrev pub arrivals_read : List Arrival → List Happening → List Arrival
arrivals_read first [] = first
arrivals_read first (Comes arrival ∷ earlier) = arrivals_read first earlier ++ arrival ∷ []
arrivals_read first (Acknowledges n value ∷ earlier) = arrivals_read first earlier ++ completion n (result_of_value value) ∷ []
arrivals_read first (Closes ∷ earlier) = arrivals_read first earlier
arrivals_read first (Turns end ∷ earlier) = arrivals_read first earlier

abbrev pub attempting_of : AttemptState → Attempting
attempting_of (Live a) = a
attempting_of (Over a reply) = a
attempting_of (Misled a) = a

abbrev pub proposed_by : AttemptState → List (ℕ × NonEmptyValue)
proposed_by state = (attempting_of state).proposed

abbrev pub is_attempt_over : AttemptState → Bool
is_attempt_over (Live a) = false
is_attempt_over (Over a reply) = true
is_attempt_over (Misled a) = true

-- the answers and the executed bodies of an attempt, together
abbrev pub count_made : AttemptState → ℕ
count_made state = length (attempting_of state).answers + length (proposed_by state)
