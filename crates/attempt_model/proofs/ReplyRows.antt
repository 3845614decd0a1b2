-- Worked rows: what the machine replies to a list of calls, by computation. Each tells the machine from one that is wrong in one place.
use Rattle.std.proofs.Common.{◌≡◌, refl, ℕ, Bool, true, false, List, [], ◌∷◌, map, Option, Some, None, codes}
use Rattle.journal_model.specs.declared.notification.NotificationId.TheVariants.{CompletionId, SignalId, SignalName}
use Rattle.journal_model.specs.declared.notification.NotificationResult.{NotificationResult}
use Rattle.journal_model.specs.declared.notification.NotificationResult.TheVariants.{Void}
use Rattle.journal_model.specs.Notification.{Bytes, Arrival}
use Rattle.journal_model.specs.AwaitTree.{AwaitTree, Single, Combined, no_trees, and_trees, FirstCompleted}
use Rattle.journal_model.specs.Request.{Request, SignalValue}
use Rattle.journal_model.specs.declared.notification.SignalKey.{SignalKey}
use Rattle.journal_model.specs.declared.call.Call.{Call}
use Rattle.journal_model.specs.declared.call.Answer.{Answer}
use Rattle.journal_model.specs.declared.options.ImplicitCancellationOption.TheVariants.{Enabled}
use Rattle.journal_model.specs.declared.options.SignalDelivery.TheVariants.{Queued}
use Rattle.journal_model.specs.Run.{Invocation}
use Rattle.attempt_model.specs.Machine.{machine_at_start, Fault, Mismatch, UncompletedInReplay, EndInReplay, ChildNotId, Reply, Answered, AwaitsChild, FailedBy, reply_to}

abbrev any_header : Call → Request → Request → Bool
any_header call recorded request = true

abbrev no_header : Call → Request → Request → Bool
no_header call recorded request = false

-- an invocation whose object has one value, shown whole; a cancellation ends awaits and is passed on to calls
abbrev given : Invocation
given = record {
  version = 7;
  options = record { implicit_cancellation = Enabled true false; signal_delivery = Queued };
  input = record { invocation_id = codes "i1"; key = codes "o"; random_seed = 1; headers = []; input = []; scope = None; limit_key = None; idempotency_key = None };
  start = record { is_whole = true; entries = (codes "x", codes "1") ∷ [] };
}

abbrev reply_behind : (Call → Request → Request → Bool) → Call → Reply → Reply
reply_behind same_header call (Answered answer m) = reply_to same_header given m call
reply_behind same_header call reply = reply

-- the reply to the last of these calls; a reply that is no answer stops them
abbrev last_reply : (Call → Request → Request → Bool) → List Call → Reply → Reply
last_reply same_header [] reply = reply
last_reply same_header (call ∷ calls) reply = last_reply same_header calls (reply_behind same_header call reply)

abbrev reply_over : List Request → List Arrival → List Call → Reply
reply_over requests arrivals calls = last_reply any_header calls (Answered Answer.Done (machine_at_start given.start (map Some requests) arrivals))

abbrev answer_of : Reply → Option Answer
answer_of (Answered answer m) = Some answer
answer_of reply = None

abbrev written_of : Reply → Option (List Request)
written_of (Answered answer m) = Some m.written
written_of reply = None

abbrev fault_of : Reply → Option Fault
fault_of (FailedBy fault) = Some fault
fault_of reply = None

abbrev child_of_reply : Reply → Option ℕ
child_of_reply (AwaitsChild child m) = Some child
child_of_reply reply = None

abbrev sleep : Call
sleep = Call.Sleep [] 10000000 None

abbrev ask : Call
ask = Call.Call (record { service = codes "svc"; handler = codes "h"; key = None; idempotency_key = None; scope = None; limit_key = None; headers = [] }) [] None (record { unstable_serialization = false })

abbrev asked : ℕ → ℕ → Request
asked m n = Request.CallService (record { service_name = codes "svc"; handler_name = codes "h"; parameter = []; headers = []; key = []; idempotency_key = None; scope = None; limit_key = None }) m n []

abbrev completed : ℕ → NotificationResult → Arrival
completed n result = record { id = CompletionId n; result = result }

abbrev told_id : ℕ → Arrival
told_id n = completed n (NotificationResult.InvocationId (codes "k"))

abbrev cancel : Arrival
cancel = record { id = SignalId 1; result = Void }

abbrev signalled : Bytes → Arrival
signalled bytes = record { id = SignalName (codes "s"); result = NotificationResult.Value bytes }

abbrev either : AwaitTree ℕ
either = Combined FirstCompleted (and_trees (Single 17) (and_trees (Single 18) no_trees))

-- of two sleeps the second came first: when the await wakes the first was not looked at
looks-at-one : answer_of (reply_over [] (completed 2 Void ∷ completed 1 Void ∷ []) (sleep ∷ sleep ∷ Call.Await either ∷ Call.IsCompleted 17 ∷ [])) ≡ Some (Answer.Completed false)
looks-at-one = refl

-- in replay nothing is written; where nothing recorded is left each request is, and a call uses up two completions
replay-writes-nothing : written_of (reply_over (Request.Sleep 10 1 [] ∷ []) [] (sleep ∷ [])) ≡ Some []
replay-writes-nothing = refl

writes-behind : written_of (reply_over (Request.Sleep 10 1 [] ∷ []) [] (sleep ∷ ask ∷ sleep ∷ [])) ≡ Some (asked 2 3 ∷ Request.Sleep 10 4 [] ∷ [])
writes-behind = refl

-- a command whose header differs, and one that is no request, match no call
differs : fault_of (last_reply no_header (sleep ∷ []) (Answered Answer.Done (machine_at_start given.start (Some (Request.Sleep 10 1 []) ∷ []) []))) ≡ Some Mismatch
differs = refl

matches-no-other : fault_of (last_reply any_header (sleep ∷ []) (Answered Answer.Done (machine_at_start given.start (None ∷ []) []))) ≡ Some Mismatch
matches-no-other = refl

-- an await that stays asleep in replay fails, and so does an end
asleep-in-replay : fault_of (reply_over (Request.Sleep 10 1 [] ∷ Request.Sleep 10 2 [] ∷ []) [] (sleep ∷ Call.Await (Single 17) ∷ [])) ≡ Some UncompletedInReplay
asleep-in-replay = refl

end-in-replay : fault_of (reply_over (Request.Sleep 10 1 [] ∷ []) [] (Call.End ∷ [])) ≡ Some EndInReplay
end-in-replay = refl

-- a cancellation waits for each of its children
waits-for-last : child_of_reply (reply_over [] (told_id 1 ∷ cancel ∷ []) (ask ∷ ask ∷ Call.Await (Single 18) ∷ [])) ≡ Some 3
waits-for-last = refl

-- what is no invocation id fails the machine, where a cancellation looks for its children and where it is taken
abbrev value_of : ℕ → Arrival
value_of n = completed n (NotificationResult.Value [])

cancels-no-value : fault_of (reply_over [] (value_of 1 ∷ cancel ∷ []) (ask ∷ ask ∷ Call.Await (Single 18) ∷ [])) ≡ Some ChildNotId
cancels-no-value = refl

waits-in-order : child_of_reply (reply_over [] (value_of 3 ∷ cancel ∷ []) (ask ∷ ask ∷ Call.Await (Single 18) ∷ [])) ≡ Some 1
waits-in-order = refl

takes-no-value : fault_of (reply_over [] (value_of 1 ∷ []) (ask ∷ Call.Await (Single 17) ∷ Call.Take 17 ∷ [])) ≡ Some ChildNotId
takes-no-value = refl

-- a child whose invocation id was taken is known; the cancellation goes on without what was taken
told-when-taken : written_of (reply_over [] (told_id 1 ∷ cancel ∷ []) (ask ∷ Call.Await (Single 17) ∷ Call.Take 17 ∷ Call.Await (Single 18) ∷ []))
    ≡ Some (asked 1 2 ∷ Request.SendSignal (codes "k") (SignalKey.ByIndex 1) SignalValue.Empty [] ∷ [])
told-when-taken = refl

cancels-once : answer_of (reply_over [] (cancel ∷ []) (sleep ∷ Call.Await (Single 17) ∷ Call.IsCompleted 1 ∷ [])) ≡ Some (Answer.Completed false)
cancels-once = refl

-- two handles stand for one signal: what comes behind the first take is none of the first handle's
takes-its-handle : answer_of (reply_over [] (signalled (codes "a") ∷ signalled (codes "b") ∷ [])
    (Call.Signal (codes "s") ∷ Call.Signal (codes "s") ∷ Call.Await (Single 17) ∷ Call.Take 17 ∷ Call.Await (Single 18) ∷ Call.IsCompleted 17 ∷ [])) ≡ Some (Answer.Completed false)
takes-its-handle = refl

-- a read in replay is of the kind that the record has: the value that the start shows is not ready
reads-as-recorded : answer_of (reply_over (Request.GetLazyState (codes "x") 1 [] ∷ []) [] (Call.StateGet (codes "x") None (record { unstable_serialization = false }) ∷ Call.IsCompleted 17 ∷ []))
    ≡ Some (Answer.Completed false)
reads-as-recorded = refl

reads-what-is-known : answer_of (reply_over [] [] (Call.StateGet (codes "x") None (record { unstable_serialization = false }) ∷ Call.IsCompleted 17 ∷ [])) ≡ Some (Answer.Completed true)
reads-what-is-known = refl
