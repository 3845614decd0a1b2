-- Worked rows: what is recorded after events, what is refused, and what is due, by computation.
use Rattle.std.proofs.Common.{◌≡◌, refl, ℕ, Bool, true, false, List, [], ◌∷◌, ◌++◌, length, Some, None, codes}
use Rattle.std.specs.Str.{is_utf8, chars}
use Rattle.std.specs.Char.{encode_utf8}
use Rattle.journal_model.specs.declared.notification.NotificationId.{NotificationId}
use Rattle.journal_model.specs.declared.notification.NotificationId.TheVariants.{CompletionId, SignalId}
use Rattle.journal_model.specs.declared.notification.NotificationResult.{NotificationResult}
use Rattle.journal_model.specs.declared.value.NonEmptyValue.{NonEmptyValue}
use Rattle.journal_model.specs.Notification.{Text}
use Rattle.journal_model.specs.AwaitTree.{AwaitTree, Single, Combined, no_trees, and_trees, FirstCompleted, AllCompleted}
use Rattle.journal_model.specs.Request.{Request}
use Rattle.journal_model.specs.declared.notification.SignalKey.{SignalKey}
use Rattle.journal_model.specs.declared.invocation.NewInvocation.{NewInvocation}
use Rattle.journal_model.specs.declared.invocation.StateMode.{StateMode}
use Rattle.journal_model.specs.Event.{Suspension, ForTree, ForAny, Frame, Event, Fail, Retry}
use Rattle.journal_model.specs.Journal.{Entry, Recorded, Arrived, entries_of, object_state, recorded_answer, is_open, recorded_requests}
use Rattle.journal_model.specs.Attempt.{due, completions_of_tick, is_due, input_pieces, input_bytes, input_left, live_attempt}
use Rattle.journal_model.specs.Start.{start_payload}
use Rattle.journal_model.specs.Spelling.{request_payload}
use Rattle.journal_model.specs.Cause.{causes_of, after_all, after_open}
use Rattle.journal_model.specs.declared.cause.Cause.TheVariants.{ObjectBusy, EmptyName, InvocationClosed, CompletionNotOpen, WrongKind, ReservedSignal, AttemptNotLive, UnsupportedVersion, BrokenPayload, BadCompletion, InputNotClosed, InputRemains, InputAlreadyClosed, KeyNotText, RunNotOpen}

abbrev new_of : Text → Text → ℕ → NewInvocation
new_of id object version = record { id = id; object = object; input = []; headers = []; version = version; seed = 1; state = StateMode.Whole }

-- an invocation `i1` of the object `o`
abbrev invoke : ℕ → Event
invoke version = Event.Invoke (new_of (codes "i1") (codes "o") version)

abbrev begin_at : ℕ → Event
begin_at now = Event.Begin (codes "i1") now

abbrev give : ℕ → ℕ → Event
give attempt count = Event.Feed (codes "i1") attempt count

abbrev close : ℕ → Event
close attempt = Event.Close (codes "i1") attempt

abbrev take : ℕ → Frame → Event
take attempt frame = Event.Move (codes "i1") attempt frame

abbrev command : ℕ → Request → Event
command attempt request = take attempt (Frame.Command request)

abbrev stop : ℕ → Event
stop attempt = Event.Stop (codes "i1") attempt

abbrev complete : ℕ → NotificationResult → Event
complete n result = Event.Result (codes "i1") n result

abbrev leaf : ℕ → AwaitTree NotificationId
leaf n = Single (CompletionId n)

abbrev or_cancelled : AwaitTree NotificationId → Suspension
or_cancelled tree = ForTree (Combined FirstCompleted (and_trees tree (and_trees (Single (SignalId 1)) no_trees)))

abbrev suspend : ℕ → Suspension → Event
suspend attempt suspension = take attempt (Frame.Suspend (Some suspension))

abbrev arrived : ℕ → NotificationResult → Entry
arrived n result = Arrived (record { id = CompletionId n; result = result })

abbrev value : Text → NotificationResult
value text = NotificationResult.Value text

abbrev output : Text → Request
output text = Request.Output (NonEmptyValue.Success text) []

-- an attempt that is stopped before its sleep has come over whole leaves nothing; the next one records it and is suspended
abbrev nap_suspended : List Event
nap_suspended = invoke 7 ∷ begin_at 0 ∷ give 1 10 ∷ stop 1 ∷ begin_at 0 ∷ give 2 10 ∷ close 2 ∷ command 2 (Request.Sleep 10 1 []) ∷ suspend 2 (or_cancelled (leaf 1)) ∷ []

nap-suspended : is_due (after_all [] nap_suspended) (codes "i1") ≡ false
nap-suspended = refl

nap-early : is_due (after_all [] (nap_suspended ++ Event.Tick 9 ∷ [])) (codes "i1") ≡ false
nap-early = refl

nap-due : is_due (after_all [] (nap_suspended ++ Event.Tick 10 ∷ [])) (codes "i1") ≡ true
nap-due = refl

abbrev nap_again : List Event
nap_again = nap_suspended ++ Event.Tick 10 ∷ begin_at 10 ∷ []

nap-input : length (input_bytes (input_pieces (after_all [] nap_again) (codes "i1"))) ≡ 34
nap-input = refl

abbrev nap_ended : List Event
nap_ended = nap_again ++ give 3 34 ∷ close 3 ∷ command 3 (output (codes "ok")) ∷ take 3 Frame.End ∷ []

nap-entries : entries_of (after_all [] nap_ended) (codes "i1")
    ≡ Recorded (Request.Sleep 10 1 []) ∷ arrived 1 NotificationResult.Void ∷ Recorded (output (codes "ok")) ∷ []
nap-entries = refl

nap-answer : recorded_answer (after_all [] nap_ended) (codes "i1") ≡ Some (NonEmptyValue.Success (codes "ok"))
nap-answer = refl

nap-closed : is_open (after_all [] nap_ended) (codes "i1") ≡ false
nap-closed = refl

-- a closed invocation takes nothing more
nap-late : causes_of (after_all [] nap_ended) (complete 1 NotificationResult.Void) ≡ InvocationClosed ∷ CompletionNotOpen ∷ []
nap-late = refl

-- start frames: of a new invocation, and of one whose attempts have failed since its last entry
start-new : start_payload (after_all [] (invoke 7 ∷ [])) (codes "i1") 0
    ≡ 0x0a ∷ 0x02 ∷ 0x69 ∷ 0x31 ∷ 0x12 ∷ 0x02 ∷ 0x69 ∷ 0x31 ∷ 0x18 ∷ 0x01 ∷ 0x32 ∷ 0x01 ∷ 0x6f ∷ 0x48 ∷ 0x01 ∷ []
start-new = refl

start-retried : start_payload (after_all [] (invoke 7 ∷ begin_at 0 ∷ give 1 10 ∷ command 1 (Request.Run 1 (codes "r")) ∷ take 1 (Frame.Error 500 (codes "boom") Retry None) ∷ begin_at 5 ∷ stop 2 ∷ [])) (codes "i1") 9
    ≡ 0x0a ∷ 0x02 ∷ 0x69 ∷ 0x31 ∷ 0x12 ∷ 0x02 ∷ 0x69 ∷ 0x31 ∷ 0x18 ∷ 0x02 ∷ 0x32 ∷ 0x01 ∷ 0x6f ∷ 0x38 ∷ 0x01 ∷ 0x40 ∷ 0x04 ∷ 0x48 ∷ 0x01 ∷ []
start-retried = refl

-- the input is closed only when it was handed out whole, and only once
abbrev given_part : List Event
given_part = invoke 7 ∷ begin_at 0 ∷ give 1 4 ∷ []

input-remains : causes_of (after_all [] given_part) (close 1) ≡ InputRemains ∷ []
input-remains = refl

input-closed : causes_of (after_all [] (given_part ++ give 1 6 ∷ close 1 ∷ [])) (close 1) ≡ InputAlreadyClosed ∷ []
input-closed = refl

input-closed_gives : causes_of (after_all [] (given_part ++ give 1 6 ∷ close 1 ∷ [])) (give 1 0) ≡ InputAlreadyClosed ∷ []
input-closed_gives = refl

-- an overtaken attempt is not live
overtaken : causes_of (after_all [] (invoke 7 ∷ begin_at 0 ∷ begin_at 0 ∷ [])) (give 1 5) ≡ AttemptNotLive ∷ []
overtaken = refl

-- a suspension while input is open ends the attempt, and the requests stay
early-suspension : causes_of (after_all [] (invoke 7 ∷ begin_at 0 ∷ give 1 10 ∷ command 1 (Request.Sleep 10 1 []) ∷ [])) (suspend 1 (or_cancelled (leaf 1))) ≡ InputNotClosed ∷ []
early-suspension = refl

abbrev suspended_early : List Event
suspended_early = invoke 7 ∷ begin_at 0 ∷ give 1 10 ∷ command 1 (Request.Sleep 10 1 []) ∷ suspend 1 (or_cancelled (leaf 1)) ∷ []

early-suspension_ends : live_attempt (after_all [] suspended_early) (codes "i1") ≡ None
early-suspension_ends = refl

early-suspension_keeps : recorded_requests (after_all [] suspended_early) (codes "i1") ≡ Request.Sleep 10 1 [] ∷ []
early-suspension_keeps = refl

-- a suspension without a tree, while input is open
no-tree : causes_of (after_all [] given_part) (take 1 (Frame.Suspend None)) ≡ BrokenPayload ∷ InputNotClosed ∷ []
no-tree = refl

-- results of a call
abbrev asked : Request
asked = Request.CallService (record { service_name = codes "svc"; handler_name = codes "h"; parameter = []; headers = []; key = []; idempotency_key = None; scope = None; limit_key = None }) 1 2 []

asked-payload : request_payload asked ≡ 0x0a ∷ 0x03 ∷ 0x73 ∷ 0x76 ∷ 0x63 ∷ 0x12 ∷ 0x01 ∷ 0x68 ∷ 0x50 ∷ 0x01 ∷ 0x58 ∷ 0x02 ∷ []
asked-payload = refl

abbrev ask_recorded : List Event
ask_recorded = invoke 7 ∷ begin_at 0 ∷ give 1 10 ∷ command 1 asked ∷ []

abbrev failure : NotificationResult
failure = NotificationResult.Failure (record { code = 500; message = codes "no"; metadata = [] })

ask-results : entries_of (after_all [] (ask_recorded ++ complete 2 (value (codes "x")) ∷ complete 2 (value (codes "y")) ∷ complete 1 failure ∷ complete 1 (NotificationResult.InvocationId (codes "k")) ∷ [])) (codes "i1")
    ≡ Recorded asked ∷ arrived 2 (value (codes "x")) ∷ arrived 1 (NotificationResult.InvocationId (codes "k")) ∷ []
ask-results = refl

ask-again : causes_of (after_all [] (ask_recorded ++ complete 2 (value (codes "x")) ∷ [])) (complete 2 (value (codes "y"))) ≡ CompletionNotOpen ∷ []
ask-again = refl

ask-kind : causes_of (after_all [] ask_recorded) (complete 1 failure) ≡ WrongKind ∷ []
ask-kind = refl

-- from the journal of a call and its result: the input of the next attempt
ask-input : length (input_bytes (input_pieces (after_all [] (ask_recorded ++ complete 2 (value (codes "x")) ∷ stop 1 ∷ begin_at 0 ∷ [])) (codes "i1"))) ≡ 45
ask-input = refl

-- signals
reserved-signal : causes_of (after_all [] (invoke 7 ∷ [])) (Event.Signal (codes "i1") (SignalKey.ByIndex 2) NotificationResult.Void) ≡ ReservedSignal ∷ []
reserved-signal = refl

cancel-signal : causes_of (after_all [] (invoke 7 ∷ [])) (Event.Signal (codes "i1") (SignalKey.ByIndex 1) NotificationResult.Void) ≡ []
cancel-signal = refl

-- two sleeps that are both waited for: due when both are over
abbrev both_suspended : List Event
both_suspended =
    invoke 7 ∷ begin_at 0 ∷ give 1 1000 ∷ close 1 ∷ command 1 (Request.Sleep 10 1 []) ∷ command 1 (Request.Sleep 20 2 [])
    ∷ suspend 1 (or_cancelled (Combined AllCompleted (and_trees (leaf 1) (and_trees (leaf 2) no_trees)))) ∷ []

both-early : is_due (after_all [] (both_suspended ++ Event.Tick 10 ∷ [])) (codes "i1") ≡ false
both-early = refl

both-due : is_due (after_all [] (both_suspended ++ Event.Tick 10 ∷ Event.Tick 20 ∷ [])) (codes "i1") ≡ true
both-due = refl

-- before version 7 a suspension lists ids: due with any of them, and not again for one that was handed out
abbrev both_before : List Event
both_before =
    invoke 6 ∷ begin_at 0 ∷ give 1 1000 ∷ close 1 ∷ command 1 (Request.Sleep 10 1 []) ∷ command 1 (Request.Sleep 20 2 [])
    ∷ suspend 1 (ForAny (CompletionId 1 ∷ CompletionId 2 ∷ SignalId 1 ∷ [])) ∷ Event.Tick 10 ∷ []

both_before-due : is_due (after_all [] both_before) (codes "i1") ≡ true
both_before-due = refl

abbrev both_before_again : List Event
both_before_again = both_before ++ begin_at 10 ∷ give 2 46 ∷ close 2 ∷ suspend 2 (ForAny (CompletionId 2 ∷ SignalId 1 ∷ [])) ∷ []

both_before-input : length (input_left (after_all [] (both_before ++ begin_at 10 ∷ [])) (codes "i1")) ≡ 46
both_before-input = refl

both_before-waits : is_due (after_all [] both_before_again) (codes "i1") ≡ false
both_before-waits = refl

both_before-due_again : is_due (after_all [] (both_before_again ++ Event.Tick 20 ∷ [])) (codes "i1") ≡ true
both_before-due_again = refl

-- state: a stopped attempt has written once, the next writes again
abbrev set_x : Text → Request
set_x text = Request.SetState (codes "x") text []

abbrev twice_half : List Event
twice_half = invoke 7 ∷ begin_at 0 ∷ give 1 10 ∷ command 1 (set_x (codes "1")) ∷ stop 1 ∷ []

twice-half : object_state (after_all [] twice_half) (codes "o") ≡ (codes "x", codes "1") ∷ []
unfolding is_utf8 chars encode_utf8
twice-half = refl

abbrev twice_whole : List Event
twice_whole = twice_half ++ begin_at 0 ∷ give 2 26 ∷ command 2 (set_x (codes "2")) ∷ command 2 (output (codes "ok")) ∷ take 2 Frame.End ∷ []

twice-whole : object_state (after_all [] twice_whole) (codes "o") ≡ (codes "x", codes "2") ∷ []
unfolding is_utf8 chars encode_utf8
twice-whole = refl

twice-input : length (input_left (after_all [] (twice_half ++ begin_at 0 ∷ [])) (codes "i1")) ≡ 26
unfolding is_utf8 chars encode_utf8
twice-input = refl

-- a read is answered in its own transaction, from the state that another invocation left
abbrev read_asked : List Event
read_asked = twice_whole ++ Event.Invoke (new_of (codes "i2") (codes "o") 7) ∷ Event.Begin (codes "i2") 0 ∷ Event.Feed (codes "i2") 1 10 ∷ Event.Move (codes "i2") 1 (Frame.Command (Request.GetLazyState (codes "x") 1 [])) ∷ []

read-asked : entries_of (after_all [] read_asked) (codes "i2") ≡ Recorded (Request.GetLazyState (codes "x") 1 []) ∷ arrived 1 (value (codes "2")) ∷ []
unfolding is_utf8 chars encode_utf8
read-asked = refl

read-input : length (input_left (after_all [] read_asked) (codes "i2")) ≡ 15
unfolding is_utf8 chars encode_utf8
read-input = refl

-- the outcome of a run is acknowledged from version 7, and else a notification
abbrev effect_ran : ℕ → Bool → List Event
effect_ran version acknowledged = invoke version ∷ begin_at 0 ∷ give 1 10 ∷ command 1 (Request.Run 1 (codes "r")) ∷ take 1 (Frame.RunOutcome 1 (NonEmptyValue.Success (codes "z")) acknowledged) ∷ []

effect-entries : entries_of (after_all [] (effect_ran 7 true)) (codes "i1") ≡ Recorded (Request.Run 1 (codes "r")) ∷ arrived 1 (value (codes "z")) ∷ []
effect-entries = refl

effect-acknowledged : length (input_left (after_all [] (effect_ran 7 true)) (codes "i1")) ≡ 10
effect-acknowledged = refl

effect-notified : length (input_left (after_all [] (effect_ran 6 false)) (codes "i1")) ≡ 15
effect-notified = refl

no-run : causes_of (after_all [] (effect_ran 7 true)) (take 1 (Frame.RunOutcome 1 (NonEmptyValue.Success (codes "y")) true)) ≡ RunNotOpen ∷ []
no-run = refl

-- completion numbers ascend
ascending : causes_of (after_all [] (invoke 7 ∷ begin_at 0 ∷ command 1 (Request.Sleep 10 1 []) ∷ [])) (command 1 (Request.Sleep 10 1 [])) ≡ BadCompletion ∷ []
ascending = refl

no-completion : causes_of (after_all [] (invoke 7 ∷ begin_at 0 ∷ [])) (command 1 (Request.Sleep 10 0 [])) ≡ BadCompletion ∷ []
no-completion = refl

last-completion : causes_of (after_all [] (invoke 7 ∷ begin_at 0 ∷ command 1 (Request.Sleep 10 4294967295 []) ∷ [])) (command 1 (Request.Sleep 10 7 [])) ≡ BadCompletion ∷ []
last-completion = refl

key-not-text : causes_of (after_all [] (invoke 7 ∷ begin_at 0 ∷ [])) (command 1 (Request.SetState (255 ∷ []) (codes "1") [])) ≡ KeyNotText ∷ []
unfolding is_utf8 chars encode_utf8
key-not-text = refl

-- names and versions
no-name : causes_of [] (Event.Invoke (new_of (codes "i1") [] 7)) ≡ EmptyName ∷ []
no-name = refl

old-version : causes_of [] (invoke 4) ≡ UnsupportedVersion ∷ []
old-version = refl

busy : causes_of (after_all [] (invoke 7 ∷ [])) (Event.Invoke (new_of (codes "i2") (codes "o") 7)) ≡ ObjectBusy ∷ []
busy = refl

-- a failure closes its invocation only from version 7
abbrev failed : ℕ → List Event
failed version = invoke version ∷ begin_at 0 ∷ take 1 (Frame.Error 570 (codes "m") Fail None) ∷ []

failed-closes : recorded_answer (after_all [] (failed 7)) (codes "i1") ≡ Some (NonEmptyValue.Failure (record { code = 570; message = codes "m"; metadata = [] }))
failed-closes = refl

failed-refuses : causes_of (after_all [] (failed 7)) (complete 1 (value (codes "x"))) ≡ InvocationClosed ∷ CompletionNotOpen ∷ []
failed-refuses = refl

failed-open : is_open (after_all [] (failed 6)) (codes "i1") ≡ true
failed-open = refl

failed-due : is_due (after_all [] (failed 6)) (codes "i1") ≡ true
failed-due = refl

-- an opened store has no live attempt
reopened : live_attempt (after_open (after_all [] ask_recorded)) (codes "i1") ≡ None
reopened = refl

reopened-keeps : recorded_requests (after_open (after_all [] ask_recorded)) (codes "i1") ≡ asked ∷ []
reopened-keeps = refl

-- two naps that were suspended: a tick ends both sleeps, and both are due, in byte order
abbrev two_naps : List Event
two_naps =
    nap_suspended
    ++ Event.Invoke (new_of (codes "a2") (codes "p") 7) ∷ Event.Begin (codes "a2") 0 ∷ Event.Feed (codes "a2") 1 1000 ∷ Event.Close (codes "a2") 1
    ∷ Event.Move (codes "a2") 1 (Frame.Command (Request.Sleep 10 1 [])) ∷ Event.Move (codes "a2") 1 (Frame.Suspend (Some (or_cancelled (leaf 1)))) ∷ []

two_naps-before : due (after_all [] two_naps) ≡ []
two_naps-before = refl

two_naps-tick : completions_of_tick (after_all [] two_naps) 10 ≡ 2
two_naps-tick = refl

two_naps-due : due (after_all [] (two_naps ++ Event.Tick 10 ∷ [])) ≡ codes "a2" ∷ codes "i1" ∷ []
two_naps-due = refl
