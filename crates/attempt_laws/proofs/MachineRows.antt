-- Worked rows: what the machine makes of recorded requests and arrivals, by computation.
use Rattle.std.proofs.Common.{map, ◌≡◌, refl, ℕ, zero, suc, Bool, true, false, List, [], ◌∷◌, ◌++◌, Option, Some, None, codes}
use Rattle.journal_model.specs.declared.notification.NotificationId.TheVariants.{SignalId, SignalName}
use Rattle.journal_model.specs.declared.value.NonEmptyValue.{NonEmptyValue}
use Rattle.journal_model.specs.declared.notification.NotificationResult.{NotificationResult}
use Rattle.journal_model.specs.Notification.{Bytes, Arrival}
use Rattle.journal_model.specs.declared.notification.NotificationResult.TheVariants.{Void}
use Rattle.journal_model.specs.AwaitTree.{Single, Combined, no_trees, and_trees, AllSucceededOrFirstFailed}
use Rattle.journal_model.specs.Request.{Request, SignalValue}
use Rattle.journal_model.specs.declared.notification.SignalKey.{SignalKey}
use Rattle.journal_model.specs.State.{StartState}
use Rattle.journal_model.specs.declared.call.Call.{Call}
use Rattle.journal_model.specs.declared.call.Answer.{Answer}
use Rattle.journal_model.specs.declared.options.ImplicitCancellationOption.TheVariants.{Disabled}
use Rattle.journal_model.specs.declared.options.SignalDelivery.TheVariants.{Overwrite}
use Rattle.journal_model.specs.Run.{Handler, Invocation, run}
use Rattle.built_in_handlers.specs.Handlers
use Rattle.journal_laws.proofs.Rows.{whole, unknown, completed, ok_output}
use Rattle.attempt_model.specs.Machine.{Machine, machine_at_start, Reply, Answered, AwaitsTree, AwaitsChild, Finished, FailedBy, reply_to}

abbrev any_header : Call → Request → Request → Bool
any_header call recorded request = true

-- before the first call, over these recorded requests
abbrev machine_over : StartState → List Request → List Arrival → Machine
machine_over start requests arrivals = machine_at_start start (map Some requests) arrivals

abbrev shown : StartState
shown = (whole []).start

-- the answers that were given, and the last reply
record Played : Type 0 where
  answers : List Answer
  reply : Reply

abbrev answered_by : Handler → Invocation → List Answer → Reply → Played
answered_by handler given answers (Answered answer m) =
    record { answers = answers ++ answer ∷ []; reply = reply_to any_header given m (handler given.input (answers ++ answer ∷ [])) }
answered_by handler given answers reply = record { answers = answers; reply = reply }

-- so many turns behind the first one; a reply that is no answer stops them
abbrev turns : Handler → Invocation → ℕ → Played → Played
turns handler given zero played = played
turns handler given (suc n) played = turns handler given n (answered_by handler given played.answers played.reply)

abbrev plays : Handler → Invocation → ℕ → Machine → Played
plays handler given n m = turns handler given n (record { answers = []; reply = reply_to any_header given m (handler given.input []) })

-- what was written, where the machine finished or waits
abbrev written_by : Reply → Option (List Request)
written_by (Answered answer m) = None
written_by (AwaitsTree tree m) = Some m.written
written_by (AwaitsChild child m) = Some m.written
written_by (Finished m) = Some m.written
written_by (FailedBy fault) = None

abbrev is_finished : Reply → Bool
is_finished (Finished m) = true
is_finished _ = false

-- a nap whose sleep is recorded waits and writes nothing; over its completion it puts out and ends
nap-waits : written_by ((plays Handlers.nap (whole []) 9 (machine_over shown (Request.Sleep 10 1 [] ∷ []) [])).reply) ≡ Some []
nap-waits = refl

nap-ends : written_by ((plays Handlers.nap (whole []) 9 (machine_over shown (Request.Sleep 10 1 [] ∷ []) (completed 1 Void ∷ []))).reply) ≡ Some (ok_output (codes "ok") ∷ [])
nap-ends = refl

nap-finished : is_finished ((plays Handlers.nap (whole []) 9 (machine_over shown (Request.Sleep 10 1 [] ∷ []) (completed 1 Void ∷ []))).reply) ≡ true
nap-finished = refl

-- of two sleeps the second came first: each attempt wakes with it alone
race-again : written_by ((plays Handlers.race (whole []) 9 (machine_over shown (Request.Sleep 20 1 [] ∷ Request.Sleep 10 2 [] ∷ []) (completed 2 Void ∷ completed 1 Void ∷ []))).reply)
    ≡ Some (ok_output (codes "2") ∷ [])
race-again = refl

-- also where all was recorded before
race-replayed : written_by ((plays Handlers.race (whole []) 9 (machine_over shown (Request.Sleep 20 1 [] ∷ Request.Sleep 10 2 [] ∷ ok_output (codes "2") ∷ []) (completed 2 Void ∷ completed 1 Void ∷ []))).reply)
    ≡ Some []
race-replayed = refl

abbrev asked : ℕ → ℕ → Request
asked m n = Request.CallService (record { service_name = codes "svc"; handler_name = codes "h"; parameter = []; headers = []; key = []; idempotency_key = None; scope = None; limit_key = None }) m n []

ask-ends : written_by ((plays Handlers.ask (whole []) 9 (machine_over shown (asked 1 2 ∷ []) (completed 2 (NotificationResult.Value (codes "x")) ∷ completed 1 (NotificationResult.InvocationId (codes "k")) ∷ []))).reply)
    ≡ Some (ok_output (codes "x") ∷ [])
ask-ends = refl

-- two calls, a cancellation, and both invocation ids: a request is made for each, also where the first of them is recorded
abbrev cancel_of : Bytes → Request
cancel_of id = Request.SendSignal id (SignalKey.ByIndex 1) SignalValue.Empty []

abbrev cancel : Arrival
cancel = record { id = SignalId 1; result = Void }

abbrev told_id : ℕ → Bytes → Arrival
told_id n id = completed n (NotificationResult.InvocationId id)

abbrev waits_for_child : Reply → Option ℕ
waits_for_child (AwaitsChild child m) = Some child
waits_for_child _ = None

pair-waits : waits_for_child (plays Handlers.pair (whole []) 9 (machine_over shown (asked 1 2 ∷ asked 3 4 ∷ []) (told_id 1 (codes "a") ∷ cancel ∷ []))).reply ≡ Some 3
pair-waits = refl

pair-ends : written_by (plays Handlers.pair (whole []) 9 (machine_over shown (asked 1 2 ∷ asked 3 4 ∷ []) (told_id 1 (codes "a") ∷ cancel ∷ told_id 3 (codes "b") ∷ []))).reply
    ≡ Some (cancel_of (codes "a") ∷ cancel_of (codes "b") ∷ Request.Output (NonEmptyValue.Failure (record { code = 409; message = codes "cancelled"; metadata = [] })) [] ∷ [])
pair-ends = refl

pair-again : written_by (plays Handlers.pair (whole []) 9 (machine_over shown (asked 1 2 ∷ asked 3 4 ∷ cancel_of (codes "a") ∷ []) (told_id 1 (codes "a") ∷ cancel ∷ told_id 3 (codes "b") ∷ []))).reply
    ≡ Some (cancel_of (codes "b") ∷ Request.Output (NonEmptyValue.Failure (record { code = 409; message = codes "cancelled"; metadata = [] })) [] ∷ [])
pair-again = refl

-- keys of a state that was seen whole are read again as they were recorded, and lazily where none of it was seen
keys-replayed : written_by (plays Handlers.keys (whole []) 9 (machine_over shown (Request.SetState (codes "x") (codes "1") [] ∷ Request.ClearState (codes "x") [] ∷ Request.GetEagerStateKeys [] [] ∷ []) [])).reply
    ≡ Some (ok_output [] ∷ [])
keys-replayed = refl

keys-asked : written_by (plays Handlers.keys unknown 9 (machine_over unknown.start (Request.SetState (codes "x") (codes "1") [] ∷ []) (completed 1 (NotificationResult.StateKeys []) ∷ []))).reply
    ≡ Some (Request.ClearState (codes "x") [] ∷ Request.GetLazyStateKeys 1 [] ∷ ok_output [] ∷ [])
keys-asked = refl

-- where a completion comes twice, what is answered depends on how often the await is asked: at first it waits, as the run does;
-- asked again, though nothing came in between, it wakes
abbrev failed : ℕ → Arrival
failed n = completed n (NotificationResult.Failure (record { code = 500; message = []; metadata = [] }))

abbrev doubtful : Handler
doubtful input [] = Handlers.sleep_until 10 []
doubtful input (a ∷ []) = Handlers.sleep_until 10 []
doubtful input _ = Call.Await (Combined AllSucceededOrFirstFailed (and_trees (Single 17) (and_trees (Single 18) no_trees)))

abbrev is_waiting : Reply → Bool
is_waiting (AwaitsTree tree m) = true
is_waiting _ = false

abbrev asked_again : List Answer → Reply → Reply
asked_again answers (AwaitsTree tree m) = reply_to any_header (whole []) m (doubtful (whole []).input answers)
asked_again answers reply = reply

twice-waits : is_waiting (plays doubtful (whole []) 9 (machine_over shown [] (completed 1 Void ∷ failed 1 ∷ []))).reply ≡ true
twice-waits = refl

twice-wakes : is_waiting (asked_again (Answer.Handle 17 ∷ Answer.Handle 18 ∷ []) (plays doubtful (whole []) 9 (machine_over shown [] (completed 1 Void ∷ failed 1 ∷ []))).reply) ≡ false
twice-wakes = refl

-- where signals overwrite one another the same can happen: the await has gone by the first delivery, and asked again it goes by the second
abbrev overwriting : Invocation
overwriting = record (whole []) { options = record { implicit_cancellation = Disabled; signal_delivery = Overwrite } }

abbrev signal_then : NotificationResult → Arrival
signal_then result = record { id = SignalName (codes "s"); result = result }

abbrev hasty : Handler
hasty input [] = Call.Signal (codes "s")
hasty input (a ∷ []) = Handlers.sleep_until 10 []
hasty input _ = Call.Await (Combined AllSucceededOrFirstFailed (and_trees (Single 17) (and_trees (Single 18) no_trees)))

abbrev hasty_again : Reply → Reply
hasty_again (AwaitsTree tree m) = reply_to any_header overwriting m (hasty overwriting.input (Answer.Handle 17 ∷ Answer.Handle 18 ∷ []))
hasty_again reply = reply

abbrev signal_twice : List Arrival
signal_twice = signal_then Void ∷ signal_then (NotificationResult.Failure (record { code = 500; message = []; metadata = [] })) ∷ []

overwritten-waits : is_waiting (plays hasty overwriting 9 (machine_over shown [] signal_twice)).reply ≡ true
overwritten-waits = refl

overwritten-wakes : is_waiting (hasty_again (plays hasty overwriting 9 (machine_over shown [] signal_twice)).reply) ≡ false
overwritten-wakes = refl

overwritten-run : (run hasty overwriting signal_twice 9).ending ≡ (run hasty overwriting signal_twice 3).ending
overwritten-run = refl
