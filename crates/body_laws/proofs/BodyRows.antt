-- Worked rows: what attempts that execute bodies come to, by computation.
use Rattle.std.proofs.Common.{map, ◌≡◌, refl, ℕ, Bool, true, false, List, [], ◌∷◌, Option, Some, None, codes}
use Rattle.journal_model.specs.declared.value.NonEmptyValue.{NonEmptyValue}
use Rattle.journal_model.specs.declared.notification.NotificationResult.{NotificationResult}
use Rattle.journal_model.specs.Notification.{Arrival}
use Rattle.journal_model.specs.AwaitTree.{AwaitTree, Single, Combined, no_trees, and_trees, AllCompleted}
use Rattle.journal_model.specs.Request.{Request}
use Rattle.journal_model.specs.declared.call.Call.{Call}
use Rattle.journal_model.specs.Run.{Handler, Invocation}
use Rattle.built_in_handlers.specs.Handlers.{output_taken}
use Rattle.journal_laws.proofs.Rows.{whole, completed, ok_output}
use Rattle.attempt_model.specs.Machine.{machine_at_start}
use Rattle.body_laws.specs.Bodies.{Executor, executor_over, AwaitsTreeOf, Finishes}
use Rattle.body_laws.specs.AttemptExecution.{Retried, Proposes, FailsAttempt, Happening, Comes, Acknowledges, Closes, Turns, Turn, RanBody, Waiting, Suspended, AttemptState, Live, Over, Misled, turn_after_body, turn_reply, attempt_after, proposed_by}

abbrev any_header : Call → Request → Request → Bool
any_header call recorded request = true

-- a run is called, awaited, taken and put out
abbrev effect : Handler
effect input [] = Call.Run (codes "r")
effect input (a ∷ []) = Call.Await (Single 17)
effect input (a ∷ b ∷ []) = Call.Take 17
effect input (a ∷ b ∷ c ∷ []) = output_taken c
effect input _ = Call.End

abbrev z : NonEmptyValue
z = NonEmptyValue.Success (codes "z")

abbrev z_arrives : Arrival
z_arrives = completed 1 (NotificationResult.Value (codes "z"))

abbrev asked : Request
asked = Request.Run 1 (codes "r")

abbrev begun : List Request → List Arrival → Executor
begun journal arrivals = executor_over (machine_at_start (whole []).start (map Some journal) arrivals)

abbrev plays : Handler → Invocation → List Request → List Arrival → List Happening → AttemptState
plays handler given journal arrivals happened = attempt_after any_header handler given (begun journal arrivals) happened

-- what the next turn comes to
abbrev next_turn : Handler → Invocation → AttemptState → Option Turn
next_turn handler given (Live a) = Some (turn_after_body (Proposes z) a.is_closed (turn_reply any_header handler given a))
next_turn handler given _ = None

abbrev written_by : AttemptState → List Request
written_by (Live a) = a.executor.machine.written
written_by (Over a (Finishes e)) = e.machine.written
written_by (Over a (AwaitsTreeOf tree e)) = e.machine.written
written_by _ = []

abbrev turn : Happening
turn = Turns (Proposes z)

-- the run is requested, then its body is executed, and then its outcome is waited for
effect-runs : next_turn effect (whole []) (plays effect (whole []) [] [] (turn ∷ [])) ≡ Some RanBody
effect-runs = refl

effect-proposes : proposed_by (plays effect (whole []) [] [] (turn ∷ turn ∷ [])) ≡ (1, z) ∷ []
effect-proposes = refl

effect-waits : next_turn effect (whole []) (plays effect (whole []) [] [] (turn ∷ turn ∷ [])) ≡ Some Waiting
effect-waits = refl

-- it is executed once, however often the await is asked
effect-once : proposed_by (plays effect (whole []) [] [] (turn ∷ turn ∷ turn ∷ turn ∷ turn ∷ [])) ≡ (1, z) ∷ []
effect-once = refl

-- with closed input the attempt suspends then, with its outcome proposed
effect-suspends : next_turn effect (whole []) (plays effect (whole []) [] [] (Closes ∷ turn ∷ turn ∷ [])) ≡ Some Suspended
effect-suspends = refl

-- the acknowledgement is the arrival of what was proposed
effect-ends : written_by (plays effect (whole []) [] [] (turn ∷ turn ∷ turn ∷ turn ∷ Acknowledges 1 z ∷ turn ∷ turn ∷ [])) ≡ asked ∷ ok_output (codes "z") ∷ []
effect-ends = refl

-- an outcome that was not proposed cannot be acknowledged
abbrev is_misled : AttemptState → Bool
is_misled (Misled a) = true
is_misled _ = false

effect-misled : is_misled (plays effect (whole []) [] [] (Acknowledges 1 z ∷ turn ∷ [])) ≡ true
effect-misled = refl

-- nor twice
effect-misled_again : is_misled (plays effect (whole []) [] [] (Acknowledges 1 z ∷ Acknowledges 1 z ∷ turn ∷ turn ∷ [])) ≡ true
effect-misled_again = refl

-- before version 7 no outcome is cached, and it comes as a notification
abbrev before_7 : Invocation
before_7 = record (whole []) { version = 6 }

effect-notified : written_by (plays effect before_7 [] [] (turn ∷ turn ∷ turn ∷ turn ∷ Comes z_arrives ∷ turn ∷ turn ∷ [])) ≡ asked ∷ ok_output (codes "z") ∷ []
effect-notified = refl

effect-uncached : is_misled (plays effect before_7 [] [] (Acknowledges 1 z ∷ turn ∷ turn ∷ [])) ≡ true
effect-uncached = refl

-- a run that was recorded with its outcome is not executed again
replayed-answers : proposed_by (plays effect (whole []) (asked ∷ []) (z_arrives ∷ []) (turn ∷ turn ∷ turn ∷ turn ∷ turn ∷ [])) ≡ []
replayed-answers = refl

replayed-ends : written_by (plays effect (whole []) (asked ∷ []) (z_arrives ∷ []) (turn ∷ turn ∷ turn ∷ turn ∷ turn ∷ [])) ≡ ok_output (codes "z") ∷ []
replayed-ends = refl

-- one that was recorded without it is
replayed-runs : proposed_by (plays effect (whole []) (asked ∷ []) [] (turn ∷ turn ∷ [])) ≡ (1, z) ∷ []
replayed-runs = refl

-- a body that is to be retried ends the attempt, and proposes nothing
effect-retries : next_turn effect (whole []) (plays effect (whole []) [] [] (Turns (FailsAttempt (Retried None)) ∷ turn ∷ [])) ≡ None
effect-retries = refl

effect-retries_unproposed : proposed_by (plays effect (whole []) [] [] (Turns (FailsAttempt (Retried None)) ∷ turn ∷ [])) ≡ []
effect-retries_unproposed = refl

-- two runs: of those that are awaited the one with the least handle is executed first, whatever their order in the tree, and no other
abbrev two_then : AwaitTree ℕ → Handler
two_then tree input [] = Call.Run (codes "r")
two_then tree input (a ∷ []) = Call.Run (codes "s")
two_then tree input _ = Call.Await tree

abbrev y : NonEmptyValue
y = NonEmptyValue.Success (codes "y")

both-run : proposed_by (plays (two_then (Combined AllCompleted (and_trees (Single 18) (and_trees (Single 17) no_trees)))) (whole []) [] [] (turn ∷ Turns (Proposes y) ∷ turn ∷ turn ∷ turn ∷ [])) ≡ (1, z) ∷ (2, y) ∷ []
both-run = refl

one-runs : proposed_by (plays (two_then (Single 18)) (whole []) [] [] (turn ∷ turn ∷ turn ∷ turn ∷ [])) ≡ (2, z) ∷ []
one-runs = refl

-- a run that is not awaited is not executed
abbrev careless : Handler
careless input [] = Call.Run (codes "r")
careless input _ = Call.End

careless-ends : proposed_by (plays careless (whole []) [] [] (turn ∷ turn ∷ [])) ≡ []
careless-ends = refl

-- An outcome that comes for a body which was not executed is none that a store records. Where it was taken, and its handle is awaited
-- again, the body is executed although its outcome has come: so the laws ask that no such arrival comes.
abbrev again : Handler
again input [] = Call.Run (codes "r")
again input (a ∷ []) = Call.Await (Single 17)
again input (a ∷ b ∷ []) = Call.Take 17
again input _ = Call.Await (Single 17)

early-runs : next_turn again (whole []) (plays again (whole []) [] [] (turn ∷ turn ∷ Comes z_arrives ∷ turn ∷ [])) ≡ Some RanBody
early-runs = refl

early-waits : next_turn again (whole []) (plays again (whole []) (asked ∷ []) (z_arrives ∷ []) (turn ∷ turn ∷ turn ∷ [])) ≡ Some Waiting
early-waits = refl
