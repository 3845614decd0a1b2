-- Written by tools/steps of src/stamp.rt.
use Rattle.std.specs.Prelude.{codes}
use Rattle.durable_schedule.specs.Handlers.{Bytes, Input}
use Rattle.durable_schedule.specs.Straight.{Steps, ◌>>=◌, ◌>>◌, done, get, set}
use Rattle.example_schedule.specs.Values.{stamped}

abbrev pub stamp : Input → Steps Bytes
stamp input = do
  before ← get (codes "card")
  let card = stamped before
  set (codes "card") card
  done (stamped before)
