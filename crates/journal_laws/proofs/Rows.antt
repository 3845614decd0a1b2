-- Worked rows: what runs make of given arrivals, by computation.
use Rattle.std.proofs.Common.{◌≡◌, refl, ℕ, true, false, List, [], ◌∷◌, Option, Some, None, codes, length}
use Rattle.journal_model.specs.declared.notification.NotificationId.{NotificationId}
use Rattle.journal_model.specs.declared.notification.NotificationId.TheVariants.{CompletionId, SignalId, SignalName}
use Rattle.journal_model.specs.declared.notification.NotificationResult.{NotificationResult}
use Rattle.journal_model.specs.declared.notification.NotificationResult.TheVariants.{Void}
use Rattle.journal_model.specs.declared.value.NonEmptyValue.{NonEmptyValue}
use Rattle.journal_model.specs.Notification.{Bytes, Text, Arrival}
use Rattle.journal_model.specs.AwaitTree.{AwaitTree, Single, Combined, no_trees, and_trees, FirstCompleted, AllCompleted}
use Rattle.journal_model.specs.declared.options.ImplicitCancellationOption.TheVariants.{Enabled}
use Rattle.journal_model.specs.declared.options.SignalDelivery.TheVariants.{Queued}
use Rattle.journal_model.specs.Request.{Request, SignalValue}
use Rattle.journal_model.specs.declared.notification.SignalKey.{SignalKey}
use Rattle.journal_model.specs.State.{StateMap}
use Rattle.journal_model.specs.declared.call.Call.{Call}
use Rattle.journal_model.specs.declared.call.Answer.{Answer}
use Rattle.journal_model.specs.Awakeable.{awakeable_id}
use Rattle.journal_model.specs.Run.{Invocation, Ending, Waits, Ended, Handler, run, run_requests, run_answer}
use Rattle.built_in_handlers.specs.Handlers

-- an invocation `i1` of version 7 with the default options, which sees its object's state whole, or none of it
abbrev pub whole : StateMap → Invocation
whole entries = record {
  version = 7;
  options = record { implicit_cancellation = Enabled true false; signal_delivery = Queued };
  input = record { invocation_id = codes "i1"; key = codes "o"; random_seed = 1; headers = []; input = []; scope = None; limit_key = None; idempotency_key = None };
  start = record { is_whole = true; entries = entries };
}

abbrev pub unknown : Invocation
unknown = record (whole []) { start = record { is_whole = false; entries = [] } }

abbrev pub completed : ℕ → NotificationResult → Arrival
completed n result = record { id = CompletionId n; result = result }

abbrev pub ok_output : Bytes → Request
ok_output bytes = Request.Output (NonEmptyValue.Success bytes) []

-- the tree of these leaves beside a cancellation
abbrev pub or_cancelled : AwaitTree (Option NotificationId) → Ending
or_cancelled tree = Waits (Combined FirstCompleted (and_trees tree (and_trees (Single (Some (SignalId 1))) no_trees)))

abbrev pub leaf : ℕ → AwaitTree (Option NotificationId)
leaf n = Single (Some (CompletionId n))

-- a nap records its sleep and waits for it
nap-waits : run_requests Handlers.nap (whole []) [] 9 ≡ Request.Sleep 10 1 [] ∷ []
nap-waits = refl

nap-waits_for : (run Handlers.nap (whole []) [] 9).ending ≡ or_cancelled (leaf 1)
nap-waits_for = refl

nap-ends : run_requests Handlers.nap (whole []) (completed 1 Void ∷ []) 9 ≡ Request.Sleep 10 1 [] ∷ ok_output (codes "ok") ∷ []
nap-ends = refl

nap-ended : (run Handlers.nap (whole []) (completed 1 Void ∷ []) 9).ending ≡ Ended
nap-ended = refl

-- of two sleeps the second comes first: the run wakes with it alone, whatever comes later
race-run : run_requests Handlers.race (whole []) (completed 2 Void ∷ completed 1 Void ∷ []) 9
    ≡ Request.Sleep 20 1 [] ∷ Request.Sleep 10 2 [] ∷ ok_output (codes "2") ∷ []
race-run = refl

race-first : run_answer Handlers.race (whole []) (completed 1 Void ∷ completed 2 Void ∷ []) 9 ≡ Some (NonEmptyValue.Success (codes "1"))
race-first = refl

-- both sleeps are waited for
both-waits : run Handlers.both (whole []) (completed 1 Void ∷ []) 9 ≡ run Handlers.both (whole []) [] 9
both-waits = refl

both-waits_for : (run Handlers.both (whole []) [] 9).ending ≡ or_cancelled (Combined AllCompleted (and_trees (leaf 1) (and_trees (leaf 2) no_trees)))
both-waits_for = refl

both-ends : run_requests Handlers.both (whole []) (completed 1 Void ∷ completed 2 Void ∷ []) 9
    ≡ Request.Sleep 10 1 [] ∷ Request.Sleep 20 2 [] ∷ ok_output (codes "ok") ∷ []
both-ends = refl

-- a call takes two completions; its result is taken and put out
asked : ℕ → ℕ → Request
asked m n = Request.CallService (record { service_name = codes "svc"; handler_name = codes "h"; parameter = []; headers = []; key = []; idempotency_key = None; scope = None; limit_key = None }) m n []

ask-waits : run_requests Handlers.ask (whole []) [] 9 ≡ asked 1 2 ∷ []
unfolding asked
ask-waits = refl

ask-waits_for : (run Handlers.ask (whole []) (completed 1 (NotificationResult.InvocationId (codes "k")) ∷ []) 9).ending ≡ or_cancelled (leaf 2)
ask-waits_for = refl

ask-ends : run_requests Handlers.ask (whole []) (completed 2 (NotificationResult.Value (codes "x")) ∷ []) 9 ≡ asked 1 2 ∷ ok_output (codes "x") ∷ []
unfolding asked
ask-ends = refl

-- two writes of one key
twice-run : run_requests Handlers.twice (whole []) [] 9
    ≡ Request.SetState (codes "x") (codes "1") [] ∷ Request.SetState (codes "x") (codes "2") [] ∷ ok_output (codes "ok") ∷ []
twice-run = refl

twice-ended : (run Handlers.twice (whole []) [] 4).ending ≡ Ended
twice-ended = refl

-- keys are known where the map was seen whole: a cleared key is none of them
keys-known : run_requests Handlers.keys (whole []) [] 9
    ≡ Request.SetState (codes "x") (codes "1") [] ∷ Request.ClearState (codes "x") [] ∷ Request.GetEagerStateKeys [] [] ∷ ok_output [] ∷ []
keys-known = refl

keys-asked : run_requests Handlers.keys unknown (completed 1 (NotificationResult.StateKeys []) ∷ []) 9
    ≡ Request.SetState (codes "x") (codes "1") [] ∷ Request.ClearState (codes "x") [] ∷ Request.GetLazyStateKeys 1 [] ∷ ok_output [] ∷ []
keys-asked = refl

-- a read is asked for, or known from the start
read-waits : run_requests Handlers.read unknown [] 9 ≡ Request.GetLazyState (codes "x") 1 [] ∷ []
read-waits = refl

read-asked : run_requests Handlers.read unknown (completed 1 (NotificationResult.Value (codes "2")) ∷ []) 9
    ≡ Request.GetLazyState (codes "x") 1 [] ∷ ok_output (codes "2") ∷ []
read-asked = refl

read-known : run_requests Handlers.read (whole ((codes "x", codes "2") ∷ [])) [] 5
    ≡ Request.GetEagerState (codes "x") (Some (codes "2")) [] ∷ ok_output (codes "2") ∷ []
read-known = refl

read-known_ended : (run Handlers.read (whole ((codes "x", codes "2") ∷ [])) [] 5).ending ≡ Ended
read-known_ended = refl

-- the outcome of a run is an arrival like any other
effect-waits : run_requests Handlers.effect (whole []) [] 9 ≡ Request.Run 1 (codes "r") ∷ []
effect-waits = refl

effect-ends : run_requests Handlers.effect (whole []) (completed 1 (NotificationResult.Value (codes "z")) ∷ []) 9
    ≡ Request.Run 1 (codes "r") ∷ ok_output (codes "z") ∷ []
effect-ends = refl

-- a signal by its name
signalled : Text → NotificationResult → Arrival
signalled name result = record { id = SignalName name; result = result }

go-waits : run Handlers.go (whole []) [] 9
    ≡ record { steps = (run Handlers.go (whole []) [] 1).steps; ending = or_cancelled (Single (Some (SignalName (codes "go")))) }
go-waits = refl

go-ends : run_requests Handlers.go (whole []) (signalled (codes "go") (NotificationResult.Value (codes "hi")) ∷ []) 9 ≡ ok_output (codes "hi") ∷ []
unfolding signalled
go-ends = refl

-- an awakeable, by its signal
hook-ends : run_requests Handlers.hook (whole []) (record { id = SignalId 17; result = NotificationResult.Value (codes "k") } ∷ []) 9 ≡ ok_output (codes "k") ∷ []
hook-ends = refl

-- a cancellation waits for the children that are not known yet, then goes on to each of them in order
cancelled : Arrival
cancelled = record { id = SignalId 1; result = Void }

child : ℕ → Text → Arrival
child n id = completed n (NotificationResult.InvocationId id)

pair-waits : run_requests Handlers.pair (whole []) (child 1 (codes "a") ∷ cancelled ∷ []) 9 ≡ asked 1 2 ∷ asked 3 4 ∷ []
unfolding asked cancelled child
pair-waits = refl

pair-waits_for : (run Handlers.pair (whole []) (child 1 (codes "a") ∷ cancelled ∷ []) 9).ending ≡ Waits (leaf 3)
unfolding asked cancelled child
pair-waits_for = refl

cancel_of : Text → Request
cancel_of id = Request.SendSignal id (SignalKey.ByIndex 1) SignalValue.Empty []

pair-cancelled : run_requests Handlers.pair (whole []) (child 1 (codes "a") ∷ cancelled ∷ child 3 (codes "b") ∷ []) 9
    ≡ asked 1 2 ∷ asked 3 4 ∷ cancel_of (codes "a") ∷ cancel_of (codes "b")
    ∷ Request.Output (NonEmptyValue.Failure (record { code = 409; message = codes "cancelled"; metadata = [] })) [] ∷ []
unfolding asked cancelled child cancel_of
pair-cancelled = refl

pair-ended : (run Handlers.pair (whole []) (child 1 (codes "a") ∷ cancelled ∷ child 3 (codes "b") ∷ []) 9).ending ≡ Ended
unfolding cancelled child
pair-ended = refl

-- a taken handle stands for nothing: a tree of it alone waits for ever
unfoldable pub await_all : List Answer → Call
await_all answers = Call.Await (Combined AllCompleted (and_trees (Single (Handlers.handle_at answers 0)) no_trees))

unfoldable pub taken_again : Handler
unfolding await_all
taken_again input answers =
    Handlers.call_at (Handlers.sleep_until 10 ∷ Handlers.await_one 0 ∷ Handlers.take_one 0 ∷ await_all ∷ []) (length answers) answers

taken_again-waits_for : (run taken_again (whole []) (completed 1 Void ∷ []) 9).ending
    ≡ or_cancelled (Combined AllCompleted (and_trees (Single None) no_trees))
unfolding taken_again await_all
taken_again-waits_for = refl

-- the first awakeable of the invocation `inv1`
awakeable-text : awakeable_id (codes "inv1") 17 ≡ codes "sign_1aW52MQAAABE"
awakeable-text = refl
