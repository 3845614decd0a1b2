-- Written by tools/steps of src/payment.rt.
use Rattle.std.specs.Prelude.{codes}
use Rattle.durable_schedule.specs.Handlers.{Bytes, Input}
use Rattle.durable_schedule.specs.Straight.{Steps, run_effect}

abbrev pub payment : Input → Steps Bytes
payment input = do
  run_effect (codes "pay")
