-- The built-in handlers, each as the list of its calls.
use Rattle.std.specs.Prelude.{ℕ, zero, suc, ◌*◌, ◌-◌, Bool, true, false, if◌then◌else◌, List, [], ◌∷◌, length, Option, Some, None, unwrap_or, slice_get, codes}
use Rattle.std.specs.List.{list_any, join_with_byte}
use Rattle.journal_model.specs.declared.value.NonEmptyValue.{NonEmptyValue}
use Rattle.journal_model.specs.Notification.{Bytes}
use Rattle.journal_model.specs.declared.value.Value.{Value}
use Rattle.journal_model.specs.AwaitTree.{AwaitTree, Single, Combined, AwaitTrees, no_trees, and_trees, FirstCompleted, AllCompleted, AtLeast}
use Rattle.journal_model.specs.declared.call.Call.{Call}
use Rattle.journal_model.specs.declared.call.Answer.{Answer}
use Rattle.journal_model.specs.declared.call.PayloadOptions.{PayloadOptions}
use Rattle.journal_model.specs.declared.handler.Input.{Input}
use Rattle.journal_model.specs.Run.{Handler}
use Rattle.built_in_handlers.specs.declared.script.Place.{Place}

-- a moment of so many milliseconds
abbrev pub at_ms : ℕ → ℕ
at_ms n = n * 1000000

abbrev pub default_options : PayloadOptions
default_options = record { unstable_serialization = false }

-- an output of these bytes
abbrev pub output_bytes : Bytes → Call
output_bytes bytes = Call.Output (NonEmptyValue.Success bytes) default_options

-- the answer at a number, counted from 0
abbrev pub answer_at : List Answer → ℕ → Answer
answer_at answers n = unwrap_or (slice_get answers n) Answer.Done

-- the handle in an answer: of two, the second; 0 where there is none
abbrev pub handle_in : Answer → ℕ
handle_in (Answer.Handle handle) = handle
handle_in (Answer.Handles invocation_id_handle result_handle) = result_handle
handle_in (Answer.Awakeable id handle) = handle
handle_in _ = 0

abbrev pub handle_at : List Answer → ℕ → ℕ
handle_at answers n = handle_in (answer_at answers n)

-- what is put out of a taken value: a success or a failure as it is, void and nothing as empty,
-- keys joined by commas, an invocation id as its text
abbrev pub value_of_taken : Option Value → NonEmptyValue
value_of_taken None = NonEmptyValue.Success []
value_of_taken (Some Value.Void) = NonEmptyValue.Success []
value_of_taken (Some (Value.Success bytes)) = NonEmptyValue.Success bytes
value_of_taken (Some (Value.Failure failure)) = NonEmptyValue.Failure failure
value_of_taken (Some (Value.InvocationId id)) = NonEmptyValue.Success id
value_of_taken (Some (Value.StateKeys keys)) = NonEmptyValue.Success (join_with_byte 44 keys)

abbrev pub output_taken : Answer → Call
output_taken (Answer.Taken result) = Call.Output (value_of_taken result) default_options
output_taken _ = output_bytes []

abbrev pub output_choice : Answer → Call
output_choice (Answer.Completed true) = output_bytes (codes "1")
output_choice _ = output_bytes (codes "2")

abbrev pub is_cancelled : Answer → Bool
is_cancelled Answer.Cancelled = true
is_cancelled _ = false

-- whether the last of the answers is a cancelled await
abbrev pub ends_cancelled : List Answer → Bool
ends_cancelled answers = is_cancelled (answer_at answers (length answers - 1))

-- where a script is after these answers
abbrev pub place_after : List Answer → Place
place_after answers =
    if ends_cancelled answers then Place.Cancelled
    else (if list_any is_cancelled answers then Place.Over else Place.At (length answers))

-- the call of a script at a number, and the end behind the last one
abbrev pub call_at : List (List Answer → Call) → ℕ → List Answer → Call
call_at [] n answers = Call.End
call_at (next ∷ calls) zero answers = next answers
call_at (next ∷ calls) (suc n) answers = call_at calls n answers

-- what follows a cancelled await: a failure is put out, and then the end
abbrev pub cancelled_output : Call
cancelled_output = Call.Output (NonEmptyValue.Failure (record { code = 409; message = codes "cancelled"; metadata = [] })) default_options

-- the call of a script at its place
abbrev pub scripted_at : List (List Answer → Call) → List Answer → Place → Call
scripted_at calls answers Place.Cancelled = cancelled_output
scripted_at calls answers Place.Over = Call.End
scripted_at calls answers (Place.At n) = call_at calls n answers

-- the next of these calls, or what follows a cancelled await
abbrev pub scripted : List (List Answer → Call) → List Answer → Call
scripted calls answers = scripted_at calls answers (place_after answers)

abbrev pub sleep_until : ℕ → List Answer → Call
sleep_until ms answers = Call.Sleep [] (at_ms ms) None

abbrev pub await_one : ℕ → List Answer → Call
await_one n answers = Call.Await (Single (handle_at answers n))

abbrev pub take_one : ℕ → List Answer → Call
take_one n answers = Call.Take (handle_at answers n)

abbrev pub output_at : ℕ → List Answer → Call
output_at n answers = output_taken (answer_at answers n)

abbrev pub output_ok : List Answer → Call
output_ok answers = output_bytes (codes "ok")

abbrev pub completed_at : ℕ → List Answer → Call
completed_at n answers = Call.IsCompleted (handle_at answers n)

abbrev pub choice_at : ℕ → List Answer → Call
choice_at n answers = output_choice (answer_at answers n)

-- sleeps until a moment
abbrev pub nap_until : ℕ → Handler
nap_until ms input answers = scripted (sleep_until ms ∷ await_one 0 ∷ take_one 0 ∷ output_ok ∷ []) answers

abbrev pub nap : Handler
nap = nap_until 10

abbrev pub nap99 : Handler
nap99 = nap_until 99

-- waits for two
abbrev pub await_two : (AwaitTrees ℕ → AwaitTree ℕ) → List Answer → Call
await_two node answers = Call.Await (node (and_trees (Single (handle_at answers 0)) (and_trees (Single (handle_at answers 1)) no_trees)))

-- waits for the first of two sleeps
abbrev pub race : Handler
race input answers =
    scripted (sleep_until 20 ∷ sleep_until 10 ∷ await_two (Combined FirstCompleted) ∷ completed_at 0 ∷ choice_at 3 ∷ []) answers

-- waits for two sleeps
abbrev pub both : Handler
both input answers = scripted (sleep_until 10 ∷ sleep_until 20 ∷ await_two (Combined AllCompleted) ∷ output_ok ∷ []) answers

-- a call of the service `svc`, handler `h`, with the input
abbrev pub ask_service : Input → List Answer → Call
ask_service input answers =
    Call.Call (record { service = codes "svc"; handler = codes "h"; key = None; idempotency_key = None; scope = None; limit_key = None; headers = [] }) input.input None default_options

abbrev pub ask : Handler
ask input answers = scripted (ask_service input ∷ await_one 0 ∷ take_one 0 ∷ output_at 2 ∷ []) answers

-- two such calls
abbrev pub pair : Handler
pair input answers = scripted (ask_service input ∷ ask_service input ∷ await_two (Combined AllCompleted) ∷ output_ok ∷ []) answers

abbrev pub set_x : Bytes → List Answer → Call
set_x value answers = Call.StateSet (codes "x") value None default_options

abbrev pub twice : Handler
twice input answers = scripted (set_x (codes "1") ∷ set_x (codes "2") ∷ output_ok ∷ []) answers

abbrev pub keys : Handler
keys input answers =
    scripted (set_x (codes "1") ∷ (λ before. Call.StateClear (codes "x") None) ∷ (λ before. Call.StateGetKeys None) ∷ await_one 2 ∷ take_one 2 ∷ output_at 4 ∷ []) answers

abbrev pub read : Handler
read input answers =
    scripted ((λ before. Call.StateGet (codes "x") None default_options) ∷ await_one 0 ∷ take_one 0 ∷ output_at 2 ∷ []) answers

abbrev pub effect : Handler
effect input answers = scripted ((λ before. Call.Run (codes "r")) ∷ await_one 0 ∷ take_one 0 ∷ output_at 2 ∷ []) answers

abbrev pub go : Handler
go input answers = scripted ((λ before. Call.Signal (codes "go")) ∷ await_one 0 ∷ take_one 0 ∷ output_at 2 ∷ []) answers

abbrev pub hook : Handler
hook input answers = scripted ((λ before. Call.Awakeable) ∷ await_one 0 ∷ take_one 0 ∷ output_at 2 ∷ []) answers

-- waits for two of three sleeps
abbrev pub await_two_of_three : List Answer → Call
await_two_of_three answers =
    Call.Await (Combined (AtLeast 2) (and_trees (Single (handle_at answers 0)) (and_trees (Single (handle_at answers 1)) (and_trees (Single (handle_at answers 2)) no_trees))))

abbrev pub quorum : Handler
quorum input answers = scripted (sleep_until 10 ∷ sleep_until 20 ∷ sleep_until 30 ∷ await_two_of_three ∷ output_ok ∷ []) answers
