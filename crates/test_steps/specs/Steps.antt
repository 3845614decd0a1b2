-- A handler that makes the calls of a list, one after the other, whatever they are answered.
use Rattle.std.specs.Prelude.{◌*◌, ◌-◌, List, [], length, Option, Some, None, unwrap_or, slice_get, codes, false}
use Rattle.journal_model.specs.Notification.{Bytes}
use Rattle.journal_model.specs.AwaitTree.{Single, Combined, no_trees, and_trees, AllCompleted}
use Rattle.journal_model.specs.declared.value.NonEmptyValue.{NonEmptyValue}
use Rattle.journal_model.specs.declared.value.Value.{Value}
use Rattle.journal_model.specs.declared.call.Answer.{Answer}
use Rattle.journal_model.specs.declared.call.AttachInvocationTarget.{AttachInvocationTarget}
use Rattle.journal_model.specs.declared.call.Call.{Call}
use Rattle.journal_model.specs.declared.call.PayloadOptions.{PayloadOptions}
use Rattle.journal_model.specs.declared.call.Target.{Target}
use Rattle.journal_model.specs.Run.{Handler}
use Rattle.test_steps.specs.declared.steps.Step.{Step}

-- the handler `h` of the service `s`
abbrev pub service : Target
service = record { service = codes "s"; handler = codes "h"; key = None; idempotency_key = None; scope = None; limit_key = None; headers = [] }

abbrev pub stable : PayloadOptions
stable = record { unstable_serialization = false }

abbrev pub one : NonEmptyValue
one = NonEmptyValue.Success (codes "1")

abbrev pub invocation : AttachInvocationTarget
invocation = AttachInvocationTarget.InvocationId (codes "i")

abbrev pub get : Call
get = Call.StateGet (codes "k") None stable

abbrev pub set : Call
set = Call.StateSet (codes "k") (codes "1") None stable

abbrev pub send : Call
send = Call.Send service [] None None stable

abbrev pub sleep : Call
sleep = Call.Sleep [] (10 * 1000000) None

-- the bytes of a success that was taken, and none of another answer
abbrev pub bytes_taken : Answer → Bytes
bytes_taken (Answer.Taken (Some (Value.Success bytes))) = bytes
bytes_taken _ = []

-- what the call before was answered is put out
abbrev pub output_taken : List Answer → Call
output_taken answers = Call.Output (NonEmptyValue.Success (bytes_taken (unwrap_or (slice_get answers (length answers - 1)) Answer.Done))) stable

abbrev pub call_of : Step → List Answer → Call
call_of Step.Get answers = get
call_of Step.GetKeys answers = Call.StateGetKeys None
call_of Step.Set answers = set
call_of Step.Clear answers = Call.StateClear (codes "k") None
call_of Step.ClearAll answers = Call.StateClearAll None
call_of Step.Run answers = Call.Run (codes "n")
call_of Step.Send answers = send
call_of Step.CompleteAwakeable answers = Call.CompleteAwakeable (codes "a") one stable
call_of Step.CompleteSignal answers = Call.CompleteSignal (codes "i") (codes "n") one
call_of Step.GetPromise answers = Call.GetPromise (codes "k")
call_of Step.PeekPromise answers = Call.PeekPromise (codes "k")
call_of Step.CompletePromise answers = Call.CompletePromise (codes "k") one stable
call_of Step.Cancel answers = Call.Cancel (codes "i")
call_of Step.Attach answers = Call.Attach invocation
call_of Step.GetOutput answers = Call.GetOutput invocation
call_of Step.Output answers = Call.Output one stable
call_of Step.Sleep answers = sleep
call_of Step.Signal answers = Call.Signal (codes "a")
call_of (Step.IsCompleted handle) answers = Call.IsCompleted handle
call_of (Step.Take handle) answers = Call.Take handle
call_of (Step.Await handle) answers = Call.Await (Single handle)
call_of (Step.AwaitAll handle) answers = Call.Await (Combined AllCompleted (and_trees (Single handle) no_trees))
call_of Step.OutputTaken answers = output_taken answers

-- behind the last one it ends
abbrev pub call_or_end : Option Step → List Answer → Call
call_or_end None answers = Call.End
call_or_end (Some step) answers = call_of step answers

abbrev pub steps : List Step → Handler
steps list input answers = call_or_end (slice_get list (length answers)) answers
