-- The calls of a handler, as steps: each is made until it has an answer, and then brings what the answer says.
use Rattle.std.specs.Prelude.{ℕ, Bool, true, false, List, [], ◌∷◌, Option, Some, None, Result, Ok, Err, codes}
use Rattle.journal_model.specs.Notification.{Bytes, Text}
use Rattle.journal_model.specs.AwaitTree.{AwaitTree}
use Rattle.journal_model.specs.declared.call.Moment.{Moment}
use Rattle.journal_model.specs.declared.call.Target.{Target}
use Rattle.journal_model.specs.declared.call.AttachInvocationTarget.{AttachInvocationTarget}
use Rattle.journal_model.specs.declared.value.NonEmptyValue.{NonEmptyValue}
use Rattle.journal_model.specs.declared.value.TerminalFailure.{TerminalFailure}
use Rattle.journal_model.specs.declared.value.Value.{Value}
use Rattle.journal_model.specs.declared.call.Call.{Call}
use Rattle.journal_model.specs.declared.call.Answer.{Answer}
use Rattle.journal_model.specs.declared.call.PayloadOptions.{PayloadOptions}
use Rattle.straight_line.specs.declared.handles.Timer.{Timer}
use Rattle.straight_line.specs.declared.handles.DurableFuture.{DurableFuture}
use Rattle.straight_line.specs.declared.handles.Peeked.{Peeked}
use Rattle.straight_line.specs.declared.handles.StateRead.{StateRead}
use Rattle.straight_line.specs.declared.handles.KeysRead.{KeysRead}
use Rattle.straight_line.specs.declared.handles.IdAsked.{IdAsked}
use Rattle.straight_line.specs.declared.handles.Called.{Called}
use Rattle.straight_line.specs.declared.handles.Awakeable.{Awakeable}
use Rattle.straight_line.specs.Steps.{Steps, ◌>>=◌, ◌>>◌, done, fail, astray, make}

abbrev pub handle_of_answer : Answer → Steps ℕ
handle_of_answer (Answer.Handle handle) = done handle
handle_of_answer _ = astray

abbrev pub handle_for : Call → Steps ℕ
handle_for call = do
  answer ← make call
  handle_of_answer answer

abbrev pub done_by : Call → Steps Unit
done_by call = do
  make call
  done tt

-- the state of the object
unfoldable pub begin_get : Bytes → Option Text → PayloadOptions → Steps StateRead
begin_get key name options = do
  handle ← handle_for (Call.StateGet key name options)
  done (record { handle = handle })

unfoldable pub begin_get_keys : Option Text → Steps KeysRead
begin_get_keys name = do
  handle ← handle_for (Call.StateGetKeys name)
  done (record { handle = handle })

unfoldable pub set_with : Bytes → Bytes → Option Text → PayloadOptions → Steps Unit
set_with key value name options = done_by (Call.StateSet key value name options)

unfoldable pub clear_with : Bytes → Option Text → Steps Unit
clear_with key name = done_by (Call.StateClear key name)

unfoldable pub clear_all_with : Option Text → Steps Unit
clear_all_with name = done_by (Call.StateClearAll name)

-- sleeps and effects
unfoldable pub begin_sleep : Moment → Text → Steps Timer
begin_sleep wake_up name = do
  handle ← handle_for (Call.Sleep name wake_up None)
  done (record { handle = handle })

unfoldable pub begin_run : Text → Steps DurableFuture
begin_run name = do
  handle ← handle_for (Call.Run name)
  done (record { handle = handle })

-- other invocations
abbrev pub called_of_answer : Answer → Steps Called
called_of_answer (Answer.Handles id_handle result_handle) =
    done (record { invocation_id = record { handle = id_handle }; outcome = record { handle = result_handle } })
called_of_answer _ = astray

unfoldable pub begin_call : Target → Bytes → Option Text → PayloadOptions → Steps Called
begin_call target parameter name options = do
  answer ← make (Call.Call target parameter name options)
  called_of_answer answer

unfoldable pub send_with : Target → Bytes → Option Moment → Option Text → PayloadOptions → Steps IdAsked
send_with target parameter execution_time name options = do
  handle ← handle_for (Call.Send target parameter execution_time name options)
  done (record { handle = handle })

unfoldable pub cancel : Text → Steps Unit
cancel target_id = done_by (Call.Cancel target_id)

unfoldable pub begin_attach : AttachInvocationTarget → Steps DurableFuture
begin_attach target = do
  handle ← handle_for (Call.Attach target)
  done (record { handle = handle })

unfoldable pub begin_get_output : AttachInvocationTarget → Steps Peeked
begin_get_output target = do
  handle ← handle_for (Call.GetOutput target)
  done (record { handle = handle })

-- what the outside completes
abbrev pub awakeable_of_answer : Answer → Steps Awakeable
awakeable_of_answer (Answer.Awakeable id handle) = done (record { id = id; outcome = record { handle = handle } })
awakeable_of_answer _ = astray

unfoldable pub awakeable : Steps Awakeable
awakeable = do
  answer ← make Call.Awakeable
  awakeable_of_answer answer

unfoldable pub complete_awakeable : Text → NonEmptyValue → PayloadOptions → Steps Unit
complete_awakeable id value options = done_by (Call.CompleteAwakeable id value options)

unfoldable pub begin_signal : Text → Steps DurableFuture
begin_signal name = do
  handle ← handle_for (Call.Signal name)
  done (record { handle = handle })

unfoldable pub complete_signal : Text → Text → NonEmptyValue → Steps Unit
complete_signal target_id name value = done_by (Call.CompleteSignal target_id name value)

unfoldable pub begin_promise : Text → Steps DurableFuture
begin_promise key = do
  handle ← handle_for (Call.GetPromise key)
  done (record { handle = handle })

unfoldable pub begin_peek_promise : Text → Steps Peeked
begin_peek_promise key = do
  handle ← handle_for (Call.PeekPromise key)
  done (record { handle = handle })

unfoldable pub begin_complete_promise : Text → NonEmptyValue → PayloadOptions → Steps DurableFuture
begin_complete_promise key value options = do
  handle ← handle_for (Call.CompletePromise key value options)
  done (record { handle = handle })

-- waiting, and taking what has come
abbrev pub completed_of_answer : Answer → Steps Bool
completed_of_answer (Answer.Completed is_completed) = done is_completed
completed_of_answer _ = astray

unfoldable pub is_completed : ℕ → Steps Bool
is_completed handle = do
  answer ← make (Call.IsCompleted handle)
  completed_of_answer answer

-- a cancellation, as the handler sees it
unfoldable pub cancelled : TerminalFailure
cancelled = record { code = 409; message = codes "cancelled"; metadata = [] }

abbrev pub woken_of_answer : Answer → Steps Unit
woken_of_answer Answer.Woken = done tt
woken_of_answer Answer.Cancelled = fail cancelled
woken_of_answer _ = astray

unfoldable pub wait_for : AwaitTree ℕ → Steps Unit
wait_for tree = do
  answer ← make (Call.Await tree)
  woken_of_answer answer

-- a success without bytes is that of a call that brings nothing else, such as the completion of a promise
abbrev pub outcome_of_answer : Answer → Steps (Result Bytes TerminalFailure)
outcome_of_answer (Answer.Taken (Some (Value.Success bytes))) = done (Ok bytes)
outcome_of_answer (Answer.Taken (Some Value.Void)) = done (Ok [])
outcome_of_answer (Answer.Taken (Some (Value.Failure failure))) = done (Err failure)
outcome_of_answer _ = astray

unfoldable pub take_outcome : ℕ → Steps (Result Bytes TerminalFailure)
take_outcome handle = do
  answer ← make (Call.Take handle)
  outcome_of_answer answer

abbrev pub peeked_of_answer : Answer → Steps (Option (Result Bytes TerminalFailure))
peeked_of_answer (Answer.Taken (Some (Value.Success bytes))) = done (Some (Ok bytes))
peeked_of_answer (Answer.Taken (Some (Value.Failure failure))) = done (Some (Err failure))
peeked_of_answer (Answer.Taken (Some Value.Void)) = done None
peeked_of_answer _ = astray

unfoldable pub take_peeked : ℕ → Steps (Option (Result Bytes TerminalFailure))
take_peeked handle = do
  answer ← make (Call.Take handle)
  peeked_of_answer answer

abbrev pub state_of_answer : Answer → Steps (Option Bytes)
state_of_answer (Answer.Taken (Some (Value.Success bytes))) = done (Some bytes)
state_of_answer (Answer.Taken (Some Value.Void)) = done None
state_of_answer _ = astray

unfoldable pub take_state : ℕ → Steps (Option Bytes)
take_state handle = do
  answer ← make (Call.Take handle)
  state_of_answer answer

abbrev pub keys_of_answer : Answer → Steps (List Bytes)
keys_of_answer (Answer.Taken (Some (Value.StateKeys keys))) = done keys
keys_of_answer _ = astray

unfoldable pub take_keys : ℕ → Steps (List Bytes)
take_keys handle = do
  answer ← make (Call.Take handle)
  keys_of_answer answer

abbrev pub id_of_answer : Answer → Steps Text
id_of_answer (Answer.Taken (Some (Value.InvocationId id))) = done id
id_of_answer _ = astray

unfoldable pub take_id : ℕ → Steps Text
take_id handle = do
  answer ← make (Call.Take handle)
  id_of_answer answer

-- the result of the invocation; the last one counts
unfoldable pub output : NonEmptyValue → PayloadOptions → Steps Unit
output value options = done_by (Call.Output value options)
