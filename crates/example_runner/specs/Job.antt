-- Written by tools/steps of src/job.rt.
use Rattle.std.specs.Prelude.{codes, if◌then◌else◌}
use Rattle.durable_schedule.specs.Handlers.{Bytes, Input, is_for}
use Rattle.durable_schedule.specs.Straight.{Steps}
use Rattle.example_runner.specs.Order.{order}
use Rattle.example_runner.specs.Rounds.{rounds}
use Rattle.example_runner.specs.Trip.{trip}

abbrev pub job : Input → Steps Bytes
job input = do
  if is_for input (codes "order")
      then order input
      else (do
        if is_for input (codes "trip")
            then trip
            else rounds input)
