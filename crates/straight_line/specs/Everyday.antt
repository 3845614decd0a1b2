-- Calls with the wait for what they bring, and without names and options, as steps.
use Rattle.std.specs.Prelude.{ℕ, false, List, [], Option, None, Result}
use Rattle.journal_model.specs.Notification.{Bytes, Text}
use Rattle.journal_model.specs.AwaitTree.{Single}
use Rattle.journal_model.specs.declared.call.Moment.{Moment}
use Rattle.journal_model.specs.declared.call.Target.{Target}
use Rattle.journal_model.specs.declared.call.AttachInvocationTarget.{AttachInvocationTarget}
use Rattle.journal_model.specs.declared.call.PayloadOptions.{PayloadOptions}
use Rattle.journal_model.specs.declared.value.NonEmptyValue.{NonEmptyValue}
use Rattle.journal_model.specs.declared.value.TerminalFailure.{TerminalFailure}
use Rattle.straight_line.specs.declared.handles.Timer.{Timer}
use Rattle.straight_line.specs.declared.handles.DurableFuture.{DurableFuture}
use Rattle.straight_line.specs.declared.handles.Peeked.{Peeked}
use Rattle.straight_line.specs.declared.handles.StateRead.{StateRead}
use Rattle.straight_line.specs.declared.handles.KeysRead.{KeysRead}
use Rattle.straight_line.specs.declared.handles.IdAsked.{IdAsked}
use Rattle.straight_line.specs.Steps.{Steps, ◌>>=◌, ◌>>◌, done, or_fail}
use Rattle.straight_line.specs.Calls as told

-- the same value has the same bytes in each attempt
abbrev pub stable : PayloadOptions
stable = record { unstable_serialization = false }

unfoldable pub wait : ℕ → Steps Unit
wait handle = told.wait_for (Single handle)

-- what is waited for, by what it brings
unfoldable pub slept : Timer → Steps Unit
slept timer = wait timer.handle

unfoldable pub result_of : DurableFuture → Steps (Result Bytes TerminalFailure)
result_of outcome = do
  wait outcome.handle
  told.take_outcome outcome.handle

unfoldable pub value_of : DurableFuture → Steps Bytes
value_of outcome = do
  result ← result_of outcome
  or_fail result

unfoldable pub peek_of : Peeked → Steps (Option (Result Bytes TerminalFailure))
peek_of peeked = do
  wait peeked.handle
  told.take_peeked peeked.handle

unfoldable pub state_of : StateRead → Steps (Option Bytes)
state_of read = do
  wait read.handle
  told.take_state read.handle

unfoldable pub keys_of : KeysRead → Steps (List Bytes)
keys_of read = do
  wait read.handle
  told.take_keys read.handle

unfoldable pub id_of : IdAsked → Steps Text
id_of asked = do
  wait asked.handle
  told.take_id asked.handle

-- the state of the object
unfoldable pub get : Bytes → Steps (Option Bytes)
get key = do
  read ← told.begin_get key None stable
  state_of read

unfoldable pub get_keys : Steps (List Bytes)
get_keys = do
  read ← told.begin_get_keys None
  keys_of read

unfoldable pub set : Bytes → Bytes → Steps Unit
set key value = told.set_with key value None stable

unfoldable pub clear : Bytes → Steps Unit
clear key = told.clear_with key None

unfoldable pub clear_all : Steps Unit
clear_all = told.clear_all_with None

-- sleeps and effects
unfoldable pub sleep_until : Moment → Steps Unit
sleep_until wake_up = do
  timer ← told.begin_sleep wake_up []
  slept timer

unfoldable pub run_effect : Text → Steps Bytes
run_effect name = do
  outcome ← told.begin_run name
  value_of outcome

-- other invocations
unfoldable pub call : Target → Bytes → Steps Bytes
call target parameter = do
  called ← told.begin_call target parameter None stable
  value_of called.outcome

unfoldable pub send : Target → Bytes → Steps IdAsked
send target parameter = told.send_with target parameter None None stable

unfoldable pub attach : AttachInvocationTarget → Steps Bytes
attach target = do
  outcome ← told.begin_attach target
  value_of outcome

unfoldable pub get_output : AttachInvocationTarget → Steps (Option (Result Bytes TerminalFailure))
get_output target = do
  peeked ← told.begin_get_output target
  peek_of peeked

-- what the outside completes
unfoldable pub resolve_awakeable : Text → Bytes → Steps Unit
resolve_awakeable id value = told.complete_awakeable id (NonEmptyValue.Success value) stable

unfoldable pub reject_awakeable : Text → TerminalFailure → Steps Unit
reject_awakeable id failure = told.complete_awakeable id (NonEmptyValue.Failure failure) stable

unfoldable pub signal : Text → Steps Bytes
signal name = do
  outcome ← told.begin_signal name
  value_of outcome

unfoldable pub promise : Text → Steps Bytes
promise key = do
  outcome ← told.begin_promise key
  value_of outcome

unfoldable pub peek_promise : Text → Steps (Option (Result Bytes TerminalFailure))
peek_promise key = do
  peeked ← told.begin_peek_promise key
  peek_of peeked

unfoldable pub resolve_promise : Text → Bytes → Steps Unit
resolve_promise key value = do
  outcome ← told.begin_complete_promise key (NonEmptyValue.Success value) stable
  value_of outcome
  done tt

unfoldable pub reject_promise : Text → TerminalFailure → Steps Unit
reject_promise key failure = do
  outcome ← told.begin_complete_promise key (NonEmptyValue.Failure failure) stable
  value_of outcome
  done tt
