-- A call is read back from its words.
use Rattle.std.proofs.Common.{◌≡◌, Some, refl}
use Rattle.journal_model.specs.declared.call.Call.{Call}
use Rattle.journal_model.specs.declared.call.Call.TheVariants as calls
use Rattle.script_lines.specs.LineReader.{then_read}
use Rattle.script_lines.proofs.WordLaws.{number_32}
use Rattle.server_lines.proofs.WordLaws.{text_again}
use Rattle.call_lines.specs.Call.{IsCall, IsSaid, call_words, said_words}
use Rattle.call_lines.specs.CallReader.{attach_of, await_of, awakeable_of, cancel_of, clear_all_of, clear_of, complete_signal_of, completed_of, end_of, handle_of, keys_of, one_text_of, output_of_of, payload_or, peek_promise_of, plain_call_of, promise_of, run_of, said_of, signal_of, sleep_of, stable_of, take_of, wait_of}
use Rattle.call_lines.specs.CommandReader.{asking_word_of, naming_word_of, payload_word_of, plain_word_of}
use Rattle.call_lines.specs.WordReader.{name_or_empty_of}
use Rattle.call_lines.specs.declared.call.Said.{Said}
use Rattle.call_lines.specs.declared.call.Said.TheVariants as said
use Rattle.call_lines.proofs.PayloadLaws.{call_again, complete_awakeable-again, complete_promise-again, get_again, output_again, send_again, set_again}
use Rattle.call_lines.proofs.TargetLaws.{attached_again}
use Rattle.call_lines.proofs.TreeLaws.{tree_again}
use Rattle.call_lines.proofs.WordLaws.{moment_again, name_again, value_again}

calls_again : (call : Call) → IsCall call → said_of (call_words call) ≡ Some (said.Call call)
unfolding said_of stable_of payload_or payload_word_of plain_word_of naming_word_of asking_word_of plain_call_of keys_of clear_of clear_all_of sleep_of awakeable_of signal_of complete_signal_of promise_of peek_promise_of run_of cancel_of attach_of output_of_of completed_of take_of await_of end_of one_text_of handle_of name_or_empty_of then_read
calls_again (calls.StateGet key name options) h = get_again options key name h.0 h.1
calls_again (calls.StateGetKeys name) h = rw (name_again name h) refl
calls_again (calls.StateSet key value name options) h = set_again options key value name h.0 h.1 h.2
calls_again (calls.StateClear key name) h = rw (text_again key h.0, name_again name h.1) refl
calls_again (calls.StateClearAll name) h = rw (name_again name h) refl
calls_again (calls.Sleep name wake_up now) h = rw (moment_again wake_up h.1, text_again name h.0, h.2) refl
calls_again (calls.Call target input name options) h = call_again options target input name h.0 h.1 h.2
calls_again (calls.Send target input time name options) h = send_again options target input time name h.0 h.1 h.2 h.3
calls_again calls.Awakeable h = refl
calls_again (calls.CompleteAwakeable id value options) h = complete_awakeable-again options id value h.0 h.1
calls_again (calls.Signal name) h = rw (text_again name h) refl
calls_again (calls.CompleteSignal target name value) h = rw (text_again target h.0, text_again name h.1, value_again value h.2) refl
calls_again (calls.GetPromise key) h = rw (text_again key h) refl
calls_again (calls.PeekPromise key) h = rw (text_again key h) refl
calls_again (calls.CompletePromise key value options) h = complete_promise-again options key value h.0 h.1
calls_again (calls.Run name) h = rw (text_again name h) refl
calls_again (calls.Cancel target) h = rw (text_again target h) refl
calls_again (calls.Attach target) h = rw (attached_again target h) refl
calls_again (calls.GetOutput target) h = rw (attached_again target h) refl
calls_again (calls.IsCompleted handle) h = rw (number_32.again handle h) refl
calls_again (calls.Take handle) h = rw (number_32.again handle h) refl
calls_again (calls.Await tree) h = rw (tree_again tree h) refl
calls_again (calls.Output value options) h = output_again options value h
calls_again calls.End h = refl

pub said_again : (what : Said) → IsSaid what → said_of (said_words what) ≡ Some what
unfolding said_of stable_of payload_or payload_word_of plain_word_of naming_word_of asking_word_of plain_call_of wait_of then_read
said_again (said.Call call) h = calls_again call h
said_again (said.Wait tree) h = rw (tree_again tree h) refl
