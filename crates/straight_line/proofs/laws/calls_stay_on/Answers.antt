use Rattle.std.proofs.Common.{refl, ℕ, None}
use Rattle.journal_model.specs.declared.call.Call.{Call}
use Rattle.straight_line.specs.Calls.{begin_get, begin_get_keys, set_with, clear_with, clear_all_with, begin_sleep, begin_run, begin_call, send_with, cancel, begin_attach, begin_get_output, awakeable, complete_awakeable, begin_signal, complete_signal, begin_promise, begin_peek_promise, begin_complete_promise, is_completed, wait_for, output}
use Rattle.straight_line.specs.declared.handles.Timer.{Timer}
use Rattle.straight_line.specs.declared.handles.DurableFuture.{DurableFuture}
use Rattle.straight_line.specs.declared.handles.Peeked.{Peeked}
use Rattle.straight_line.specs.declared.handles.StateRead.{StateRead}
use Rattle.straight_line.specs.declared.handles.KeysRead.{KeysRead}
use Rattle.straight_line.specs.declared.handles.IdAsked.{IdAsked}
use Rattle.straight_line.proofs.Staying.{by_handle, at_once, on_handles, on_text, on_look, on_end}
use Rattle.straight_line.proofs.laws.calls_stay_on.Goals as goal

pub returns : goal.returns
unfolding begin_get begin_get_keys set_with clear_with clear_all_with begin_sleep begin_run begin_call send_with cancel begin_attach begin_get_output awakeable complete_awakeable begin_signal complete_signal begin_promise begin_peek_promise begin_complete_promise is_completed wait_for output
returns c =
    let read = λ (handle : ℕ). let it : StateRead = record { handle = handle } in it in
    let keys = λ (handle : ℕ). let it : KeysRead = record { handle = handle } in it in
    let timer = λ (handle : ℕ). let it : Timer = record { handle = handle } in it in
    let outcome = λ (handle : ℕ). let it : DurableFuture = record { handle = handle } in it in
    let asked = λ (handle : ℕ). let it : IdAsked = record { handle = handle } in it in
    let peeked = λ (handle : ℕ). let it : Peeked = record { handle = handle } in it in
    record {
      gets = λ key name options. by_handle (Call.StateGet key name options) read refl;
      gets_keys = λ name. by_handle (Call.StateGetKeys name) keys refl;
      sets = λ key value name options. at_once (Call.StateSet key value name options);
      clears = λ key name. at_once (Call.StateClear key name);
      clears_all = λ name. at_once (Call.StateClearAll name);
      sleeps = λ wake_up name. by_handle (Call.Sleep name wake_up None) timer refl;
      runs = λ name. by_handle (Call.Run name) outcome refl;
      calls = λ target parameter name options. record { first = refl; answered = on_handles };
      sends = λ target parameter execution_time name options. by_handle (Call.Send target parameter execution_time name options) asked refl;
      cancels = λ target_id. at_once (Call.Cancel target_id);
      attaches = λ target. by_handle (Call.Attach target) outcome refl;
      gets_output = λ target. by_handle (Call.GetOutput target) peeked refl;
      awakens = record { first = refl; answered = on_text };
      completes_awakeable = λ id value options. at_once (Call.CompleteAwakeable id value options);
      signals = λ name. by_handle (Call.Signal name) outcome refl;
      completes_signal = λ target_id name value. at_once (Call.CompleteSignal target_id name value);
      gets_promise = λ key. by_handle (Call.GetPromise key) outcome refl;
      peeks = λ key. by_handle (Call.PeekPromise key) peeked refl;
      completes_promise = λ key value options. by_handle (Call.CompletePromise key value options) outcome refl;
      looks = λ handle. record { first = refl; answered = on_look };
      waits = λ tree. record { first = refl; answered = on_end };
      puts_out = λ value options. at_once (Call.Output value options);
    }
