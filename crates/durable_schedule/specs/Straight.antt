-- Straight-line handlers: what their steps are written with, passed on, so that the specs and proofs of a handler name this crate alone.
pub use Rattle.straight_line.specs.Steps.{Steps, Makes, ◌>>=◌, ◌>>◌, done, fail, or_fail, by_result, by_option, on_failure, tried}
pub use Rattle.straight_line.specs.Calls.{begin_get, begin_get_keys, set_with, clear_with, clear_all_with, begin_sleep, begin_run, begin_call, send_with, cancel, begin_attach, begin_get_output, awakeable, complete_awakeable, begin_signal, complete_signal, begin_promise, begin_peek_promise, begin_complete_promise, is_completed, wait_for, output}
pub use Rattle.straight_line.specs.Everyday.{stable, wait, slept, result_of, value_of, peek_of, state_of, keys_of, id_of, get, get_keys, set, clear, clear_all, sleep_until, run_effect, call, send, attach, get_output, resolve_awakeable, reject_awakeable, signal, promise, peek_promise, resolve_promise, reject_promise}
pub use Rattle.straight_line.specs.Combinators.{wait_until, race, or_timeout, all, at_least, first_succeeded}
pub use Rattle.straight_values.specs.Values.{bytes_of, count_of, later, number_in, text_of}
pub use Rattle.straight_line.specs.Rounds.{for_rounds, for_until, Flow, Next, Leave, loops}
pub use Rattle.straight_line.specs.declared.combinators.Combinator.{Combinator}
pub use Rattle.straight_line.specs.declared.handles.Awakeable.{Awakeable}
pub use Rattle.straight_line.specs.declared.handles.Called.{Called}
pub use Rattle.straight_line.specs.declared.handles.IdAsked.{IdAsked}
pub use Rattle.straight_line.specs.declared.handles.KeysRead.{KeysRead}
pub use Rattle.straight_line.specs.declared.handles.DurableFuture.{DurableFuture}
pub use Rattle.straight_line.specs.declared.handles.Peeked.{Peeked}
pub use Rattle.straight_line.specs.declared.handles.StateRead.{StateRead}
pub use Rattle.straight_line.specs.declared.handles.Timer.{Timer}
pub use Rattle.straight_line.specs.declared.stop.Stop.{Stop}
pub use Rattle.journal_model.specs.declared.call.Moment.{Moment}
