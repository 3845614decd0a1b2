-- Written by tools/steps of src/order.rt.
use Rattle.std.specs.Prelude.{ℕ, codes, ◌*◌, ◌+◌}
use Rattle.journal_model.specs.Notification.{Bytes}
use Rattle.journal_model.specs.declared.handler.Input.{Input}
use Rattle.straight_line.specs.Steps.{Steps, ◌>>=◌, ◌>>◌, done, fail, on_failure, by_result}
use Rattle.straight_line.specs.Calls.{begin_run, begin_signal}
use Rattle.straight_line.specs.Combinators.{or_timeout}
use Rattle.straight_line.specs.Everyday.{result_of, run_effect, sleep_until}
use Rattle.straight_line.specs.Rounds.{Flow, Leave, Next, for_until}
use Rattle.example_straight.specs.Values.{an_hour, not_paid}
use Rattle.straight_values.specs.Values.{later}

abbrev pub pay-attempt : Input → ℕ → (Unit {0}) → Steps (Flow (Unit {0}) Bytes)
pay-attempt input attempt state = do
  paid ← begin_run (codes "pay")
  brought ← result_of paid
  by_result brought
      (λ receipt. done (Leave receipt))
      (λ _. do
        sleep_until (later input.input (1000 * (attempt + 1)))
        done (Next tt))

abbrev pub pay-after : (Unit {0}) → Steps Bytes
pay-after state = do
  fail not_paid

abbrev pub pay : Input → Steps Bytes
pay input = do
  for_until 0 3 tt (pay-attempt input) pay-after

abbrev pub confirm : Input → Steps Bytes
confirm input = do
  confirmed ← begin_signal (codes "confirmed")
  on_failure (or_timeout confirmed (later input.input an_hour)) λ failure. do
    run_effect (codes "refund")
    fail failure

abbrev pub pay_and_confirm : Input → Steps Bytes
pay_and_confirm input = do
  receipt ← pay input
  confirm input
  done receipt

abbrev pub order : Input → Steps Bytes
order input = do
  run_effect (codes "reserve")
  on_failure (pay_and_confirm input) λ failure. do
    run_effect (codes "release")
    fail failure
