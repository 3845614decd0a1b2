-- Written by tools/steps of src/every_call.rt.
use Rattle.std.specs.Prelude.{None, [], codes}
use Rattle.durable_schedule.specs.Handlers.{Bytes, Input}
use Rattle.durable_schedule.specs.Straight.{Steps, ◌>>◌, done, begin_attach, begin_complete_promise, begin_get, begin_get_keys, begin_get_output, begin_peek_promise, begin_promise, begin_run, cancel, complete_awakeable, complete_signal, clear, clear_all, send, set}
use Rattle.example_schedule.specs.Values.{one, options, other, service}

abbrev pub keep : Steps (Unit {0})
keep = do
  begin_get (codes "k") None options
  begin_get_keys None
  set (codes "k") (codes "1")
  clear (codes "k")
  clear_all

abbrev pub complete : Steps (Unit {0})
complete = do
  begin_run (codes "n")
  send service []
  complete_awakeable (codes "a") one options
  complete_signal (codes "i") (codes "n") one
  begin_promise (codes "k")
  begin_peek_promise (codes "k")
  begin_complete_promise (codes "k") one options
  done tt

abbrev pub every_call : Input → Steps Bytes
every_call input = do
  keep
  complete
  cancel (codes "i")
  begin_attach other
  begin_get_output other
  done (codes "1")
