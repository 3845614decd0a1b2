-- Written by tools/steps of src/order.rt.
use Rattle.std.specs.Prelude.{codes}
use Rattle.durable_schedule.specs.Handlers.{Bytes, Input}
use Rattle.durable_schedule.specs.Straight.{Steps, ◌>>=◌, ◌>>◌, done, fail, on_failure, begin_signal, or_timeout, clear, run_effect, set, later}

abbrev pub confirm : Input → Steps Bytes
confirm input = do
  confirmed ← begin_signal (codes "confirmed")
  on_failure (or_timeout confirmed (later input.input 500)) λ failure. do
    run_effect (codes "refund")
    fail failure

abbrev pub pay : Input → Steps Bytes
pay input = do
  receipt ← run_effect (codes "pay")
  confirm input
  done receipt

abbrev pub order : Input → Steps Bytes
order input = do
  set (codes "reserved") (codes "1")
  on_failure (pay input) λ failure. do
    clear (codes "reserved")
    fail failure
