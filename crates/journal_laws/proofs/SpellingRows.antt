-- Worked rows of spellings: payloads and frames, by computation.
use Rattle.std.proofs.Common.{◌≡◌, refl, false, List, [], ◌∷◌, Option, Some, codes, option_map}
use Rattle.journal_model.specs.declared.notification.NotificationId.TheVariants.{CompletionId}
use Rattle.journal_model.specs.declared.notification.NotificationResult.{NotificationResult}
use Rattle.journal_model.specs.declared.value.NonEmptyValue.{NonEmptyValue}
use Rattle.journal_model.specs.Notification.{Bytes, Text, Arrival}
use Rattle.journal_model.specs.AwaitTree.{Single, Combined, no_trees, and_trees, Unknown, FirstCompleted, AllCompleted, FirstSucceededOrAllFailed, AllSucceededOrFirstFailed}
use Rattle.journal_model.specs.Request.{Request, SignalValue}
use Rattle.journal_model.specs.declared.notification.SignalKey.{SignalKey}
use Rattle.journal_model.specs.Refusal.{UnsupportedAtLeast}
use Rattle.journal_model.specs.Run.{Handler, Invocation, RefusedCall, run}
use Rattle.journal_model.specs.PrunedTrees.{pruned, suspended_tree}
use Rattle.journal_model.specs.Spelling.{request_payload, suspension_payload, awaiting_on_payload, request_frame, header_bytes, notification_payload, input_frame}
use Rattle.built_in_handlers.specs.Handlers
use Rattle.journal_laws.proofs.TreeRows.{leaves}
use Rattle.journal_laws.proofs.Rows.{whole, completed, taken_again, await_all}

abbrev text : Text → NonEmptyValue
text t = NonEmptyValue.Success t

header : header_bytes 0x0402 22
    ≡ (4 ∷ 2 ∷ 0 ∷ 0 ∷ 0 ∷ 0 ∷ 0 ∷ 22 ∷ [])
header = refl

input : input_frame [] []
    ≡ (4 ∷ 0 ∷ 0 ∷ 0 ∷ 0 ∷ 0 ∷ 0 ∷ 2 ∷ 114 ∷ 0 ∷ [])
input = refl

sleep_frame : request_frame (Request.Sleep 10 1 [])
    ≡ (4 ∷ 12 ∷ 0 ∷ 0 ∷ 0 ∷ 0 ∷ 0 ∷ 4 ∷ 8 ∷ 10 ∷ 88 ∷ 1 ∷ [])
sleep_frame = refl

sleep : request_payload (Request.Sleep 10 1 [])
    ≡ (8 ∷ 10 ∷ 88 ∷ 1 ∷ [])
sleep = refl

output : request_payload (Request.Output (text (codes "ok")) [])
    ≡ (114 ∷ 4 ∷ 10 ∷ 2 ∷ 111 ∷ 107 ∷ [])
output = refl

empty_output : request_payload (Request.Output (text []) [])
    ≡ (114 ∷ 0 ∷ [])
empty_output = refl

set : request_payload (Request.SetState (codes "x") (codes "1") [])
    ≡ (10 ∷ 1 ∷ 120 ∷ 26 ∷ 3 ∷ 10 ∷ 1 ∷ 49 ∷ [])
set = refl

lazy_keys : request_payload (Request.GetLazyStateKeys 1 [])
    ≡ (88 ∷ 1 ∷ [])
lazy_keys = refl

eager_keys : request_payload (Request.GetEagerStateKeys [] [])
    ≡ (114 ∷ 0 ∷ [])
eager_keys = refl

lazy : request_payload (Request.GetLazyState (codes "x") 1 [])
    ≡ (10 ∷ 1 ∷ 120 ∷ 88 ∷ 1 ∷ [])
lazy = refl

eager : request_payload (Request.GetEagerState (codes "x") (Some (codes "2")) [])
    ≡ (10 ∷ 1 ∷ 120 ∷ 114 ∷ 3 ∷ 10 ∷ 1 ∷ 50 ∷ [])
eager = refl

run_payload : request_payload (Request.Run 1 (codes "r"))
    ≡ (88 ∷ 1 ∷ 98 ∷ 1 ∷ 114 ∷ [])
run_payload = refl

cancel : request_payload (Request.SendSignal (codes "a") (SignalKey.ByIndex 1) SignalValue.Empty [])
    ≡ (10 ∷ 1 ∷ 97 ∷ 16 ∷ 1 ∷ 34 ∷ 0 ∷ [])
cancel = refl

long : request_payload (Request.Sleep 300 1 [])
    ≡ (8 ∷ 172 ∷ 2 ∷ 88 ∷ 1 ∷ [])
long = refl

arrival : notification_payload (record { id = CompletionId 1; result = NotificationResult.Value (codes "2") })
    ≡ (8 ∷ 1 ∷ 42 ∷ 3 ∷ 10 ∷ 1 ∷ 50 ∷ [])
arrival = refl

abbrev suspension : Handler → List Arrival → Option Bytes
suspension handler arrivals =
    option_map suspension_payload (suspended_tree (whole []) arrivals (run handler (whole []) arrivals 9) (run handler (whole []) arrivals 9).ending)

nap_waits : suspension Handlers.nap [] ≡ Some (10 ∷ 8 ∷ 10 ∷ 1 ∷ 1 ∷ 18 ∷ 1 ∷ 1 ∷ 40 ∷ 1 ∷ [])
nap_waits = refl

nap_awaits : option_map (λ tree. awaiting_on_payload tree false) (suspended_tree (whole []) [] (run Handlers.nap (whole []) [] 9) (run Handlers.nap (whole []) [] 9).ending)
    ≡ Some (10 ∷ 8 ∷ 10 ∷ 1 ∷ 1 ∷ 18 ∷ 1 ∷ 1 ∷ 40 ∷ 1 ∷ [])
nap_awaits = refl

both_waits : suspension Handlers.both [] ≡ Some (10 ∷ 13 ∷ 18 ∷ 1 ∷ 1 ∷ 34 ∷ 6 ∷ 10 ∷ 2 ∷ 1 ∷ 2 ∷ 40 ∷ 2 ∷ 40 ∷ 1 ∷ [])
both_waits = refl

go_waits : suspension Handlers.go [] ≡ Some (10 ∷ 9 ∷ 18 ∷ 1 ∷ 1 ∷ 26 ∷ 2 ∷ 103 ∷ 111 ∷ 40 ∷ 1 ∷ [])
go_waits = refl

-- a quorum of three sleeps, of which none, and one, is over
abbrev spoken : Invocation
spoken = record (whole []) { version = 9 }

abbrev quorum_suspension : List Arrival → Option Bytes
quorum_suspension arrivals = option_map suspension_payload (suspended_tree spoken arrivals (run Handlers.quorum spoken arrivals 9) (run Handlers.quorum spoken arrivals 9).ending)

quorum_waits : quorum_suspension [] ≡ Some (10 ∷ 16 ∷ 18 ∷ 1 ∷ 1 ∷ 34 ∷ 9 ∷ 10 ∷ 3 ∷ 1 ∷ 2 ∷ 3 ∷ 40 ∷ 5 ∷ 48 ∷ 2 ∷ 40 ∷ 1 ∷ [])
quorum_waits = refl

quorum_pruned : quorum_suspension (completed 2 NotificationResult.Void ∷ []) ≡ Some (10 ∷ 15 ∷ 18 ∷ 1 ∷ 1 ∷ 34 ∷ 8 ∷ 10 ∷ 2 ∷ 1 ∷ 3 ∷ 40 ∷ 5 ∷ 48 ∷ 1 ∷ 40 ∷ 1 ∷ [])
quorum_pruned = refl

-- before version 9 it is refused
quorum_refused : (run Handlers.quorum (whole []) [] 9).ending ≡ RefusedCall UnsupportedAtLeast
quorum_refused = refl

taken_waits : suspension taken_again (completed 1 NotificationResult.Void ∷ []) ≡ Some (10 ∷ 9 ∷ 18 ∷ 1 ∷ 1 ∷ 34 ∷ 2 ∷ 40 ∷ 2 ∷ 40 ∷ 1 ∷ [])
unfolding taken_again await_all
taken_waits = refl

-- F(U(A(1,2)),3) after +1 waits for F(U(A(2)),3)
pruned_1 : pruned (Combined FirstCompleted (and_trees (Combined Unknown (and_trees (Combined AllCompleted (and_trees (Single 1) (and_trees (Single 2) no_trees))) no_trees)) (and_trees (Single 3) no_trees))) (leaves (1 ∷ []) []) ≡ (Combined FirstCompleted (and_trees (Combined Unknown (and_trees (Combined AllCompleted (and_trees (Single 2) no_trees)) no_trees)) (and_trees (Single 3) no_trees)))
pruned_1 = refl

-- F(U(A(1,U(2)))) after +1 waits for F(U(A(U(2))))
pruned_2 : pruned (Combined FirstCompleted (and_trees (Combined Unknown (and_trees (Combined AllCompleted (and_trees (Single 1) (and_trees (Combined Unknown (and_trees (Single 2) no_trees)) no_trees))) no_trees)) no_trees)) (leaves (1 ∷ []) []) ≡ (Combined FirstCompleted (and_trees (Combined Unknown (and_trees (Combined AllCompleted (and_trees (Combined Unknown (and_trees (Single 2) no_trees)) no_trees)) no_trees)) no_trees))
pruned_2 = refl

-- A(1,2,3) after +1-3 waits for A(2)
pruned_3 : pruned (Combined AllCompleted (and_trees (Single 1) (and_trees (Single 2) (and_trees (Single 3) no_trees)))) (leaves (1 ∷ []) (3 ∷ [])) ≡ (Combined AllCompleted (and_trees (Single 2) no_trees))
pruned_3 = refl

-- A(1,U(2)) after +1 waits for A(U(2))
pruned_4 : pruned (Combined AllCompleted (and_trees (Single 1) (and_trees (Combined Unknown (and_trees (Single 2) no_trees)) no_trees))) (leaves (1 ∷ []) []) ≡ (Combined AllCompleted (and_trees (Combined Unknown (and_trees (Single 2) no_trees)) no_trees))
pruned_4 = refl

-- S(1,2,3) after -1 waits for S(2,3)
pruned_5 : pruned (Combined FirstSucceededOrAllFailed (and_trees (Single 1) (and_trees (Single 2) (and_trees (Single 3) no_trees)))) (leaves [] (1 ∷ [])) ≡ (Combined FirstSucceededOrAllFailed (and_trees (Single 2) (and_trees (Single 3) no_trees)))
pruned_5 = refl

-- S(1,R(2,U(3))) after -1 waits for S(R(2,U(3)))
pruned_6 : pruned (Combined FirstSucceededOrAllFailed (and_trees (Single 1) (and_trees (Combined AllSucceededOrFirstFailed (and_trees (Single 2) (and_trees (Combined Unknown (and_trees (Single 3) no_trees)) no_trees))) no_trees))) (leaves [] (1 ∷ [])) ≡ (Combined FirstSucceededOrAllFailed (and_trees (Combined AllSucceededOrFirstFailed (and_trees (Single 2) (and_trees (Combined Unknown (and_trees (Single 3) no_trees)) no_trees))) no_trees))
pruned_6 = refl

-- S(1,U(R(2,3))) after +2 waits for S(1,U(R(3)))
pruned_7 : pruned (Combined FirstSucceededOrAllFailed (and_trees (Single 1) (and_trees (Combined Unknown (and_trees (Combined AllSucceededOrFirstFailed (and_trees (Single 2) (and_trees (Single 3) no_trees))) no_trees)) no_trees))) (leaves (2 ∷ []) []) ≡ (Combined FirstSucceededOrAllFailed (and_trees (Single 1) (and_trees (Combined Unknown (and_trees (Combined AllSucceededOrFirstFailed (and_trees (Single 3) no_trees)) no_trees)) no_trees)))
pruned_7 = refl

-- R(1,2,3) after +1 waits for R(2,3)
pruned_8 : pruned (Combined AllSucceededOrFirstFailed (and_trees (Single 1) (and_trees (Single 2) (and_trees (Single 3) no_trees)))) (leaves (1 ∷ []) []) ≡ (Combined AllSucceededOrFirstFailed (and_trees (Single 2) (and_trees (Single 3) no_trees)))
pruned_8 = refl

-- R(1,U(2,S(3,4))) after +1 waits for R(U(2,S(3,4)))
pruned_9 : pruned (Combined AllSucceededOrFirstFailed (and_trees (Single 1) (and_trees (Combined Unknown (and_trees (Single 2) (and_trees (Combined FirstSucceededOrAllFailed (and_trees (Single 3) (and_trees (Single 4) no_trees))) no_trees))) no_trees))) (leaves (1 ∷ []) []) ≡ (Combined AllSucceededOrFirstFailed (and_trees (Combined Unknown (and_trees (Single 2) (and_trees (Combined FirstSucceededOrAllFailed (and_trees (Single 3) (and_trees (Single 4) no_trees))) no_trees))) no_trees))
pruned_9 = refl

-- R(1,U(2,S(3,4))) after -3 waits for R(1,U(2,S(4)))
pruned_10 : pruned (Combined AllSucceededOrFirstFailed (and_trees (Single 1) (and_trees (Combined Unknown (and_trees (Single 2) (and_trees (Combined FirstSucceededOrAllFailed (and_trees (Single 3) (and_trees (Single 4) no_trees))) no_trees))) no_trees))) (leaves [] (3 ∷ [])) ≡ (Combined AllSucceededOrFirstFailed (and_trees (Single 1) (and_trees (Combined Unknown (and_trees (Single 2) (and_trees (Combined FirstSucceededOrAllFailed (and_trees (Single 4) no_trees)) no_trees))) no_trees)))
pruned_10 = refl

-- R(1,U(A(2,U(3)))) after +1 waits for R(U(A(2,U(3))))
pruned_11 : pruned (Combined AllSucceededOrFirstFailed (and_trees (Single 1) (and_trees (Combined Unknown (and_trees (Combined AllCompleted (and_trees (Single 2) (and_trees (Combined Unknown (and_trees (Single 3) no_trees)) no_trees))) no_trees)) no_trees))) (leaves (1 ∷ []) []) ≡ (Combined AllSucceededOrFirstFailed (and_trees (Combined Unknown (and_trees (Combined AllCompleted (and_trees (Single 2) (and_trees (Combined Unknown (and_trees (Single 3) no_trees)) no_trees))) no_trees)) no_trees))
pruned_11 = refl

-- R(1,U(A(2,U(3)))) after +2 waits for R(1,U(A(U(3))))
pruned_12 : pruned (Combined AllSucceededOrFirstFailed (and_trees (Single 1) (and_trees (Combined Unknown (and_trees (Combined AllCompleted (and_trees (Single 2) (and_trees (Combined Unknown (and_trees (Single 3) no_trees)) no_trees))) no_trees)) no_trees))) (leaves (2 ∷ []) []) ≡ (Combined AllSucceededOrFirstFailed (and_trees (Single 1) (and_trees (Combined Unknown (and_trees (Combined AllCompleted (and_trees (Combined Unknown (and_trees (Single 3) no_trees)) no_trees)) no_trees)) no_trees)))
pruned_12 = refl

-- R(A(1,2),A(3,4)) after -1 waits for R(A(2),A(3,4))
pruned_13 : pruned (Combined AllSucceededOrFirstFailed (and_trees (Combined AllCompleted (and_trees (Single 1) (and_trees (Single 2) no_trees))) (and_trees (Combined AllCompleted (and_trees (Single 3) (and_trees (Single 4) no_trees))) no_trees))) (leaves [] (1 ∷ [])) ≡ (Combined AllSucceededOrFirstFailed (and_trees (Combined AllCompleted (and_trees (Single 2) no_trees)) (and_trees (Combined AllCompleted (and_trees (Single 3) (and_trees (Single 4) no_trees))) no_trees)))
pruned_13 = refl

-- R(A(1,2),A(3,4)) after -1-2 waits for R(A(3,4))
pruned_14 : pruned (Combined AllSucceededOrFirstFailed (and_trees (Combined AllCompleted (and_trees (Single 1) (and_trees (Single 2) no_trees))) (and_trees (Combined AllCompleted (and_trees (Single 3) (and_trees (Single 4) no_trees))) no_trees))) (leaves [] (1 ∷ 2 ∷ [])) ≡ (Combined AllSucceededOrFirstFailed (and_trees (Combined AllCompleted (and_trees (Single 3) (and_trees (Single 4) no_trees))) no_trees))
pruned_14 = refl

-- A(1,2,1) after +1 waits for A(2)
pruned_15 : pruned (Combined AllCompleted (and_trees (Single 1) (and_trees (Single 2) (and_trees (Single 1) no_trees)))) (leaves (1 ∷ []) []) ≡ (Combined AllCompleted (and_trees (Single 2) no_trees))
pruned_15 = refl

-- A(1,2,3) after +1-3 waits for A(2)
pruned_16 : pruned (Combined AllCompleted (and_trees (Single 1) (and_trees (Single 2) (and_trees (Single 3) no_trees)))) (leaves (1 ∷ []) (3 ∷ [])) ≡ (Combined AllCompleted (and_trees (Single 2) no_trees))
pruned_16 = refl
