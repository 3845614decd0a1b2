-- Written by tools/steps of src/reminder.rt.
use Rattle.std.specs.Prelude.{codes, ◌*◌}
use Rattle.durable_schedule.specs.Handlers.{Bytes, Input}
use Rattle.durable_schedule.specs.Straight.{Steps, ◌>>◌, done, sleep_until}

abbrev pub reminder : Input → Steps Bytes
reminder input = do
  sleep_until (10 * 1_000_000)
  done (codes "it is time")
