-- Written by tools/steps of src/counter.rt.
use Rattle.std.specs.Prelude.{codes, min, ◌+◌, ◌-◌, ◌^◌}
use Rattle.journal_model.specs.Notification.{Bytes}
use Rattle.journal_model.specs.declared.handler.Input.{Input}
use Rattle.straight_line.specs.Steps.{Steps, ◌>>=◌, ◌>>◌, done}
use Rattle.straight_line.specs.Everyday.{get, set}
use Rattle.straight_values.specs.Values.{bytes_of, count_of}

abbrev pub counter : Input → Steps Bytes
counter input = do
  before ← get (codes "count")
  let count = min ((count_of before) + 1) (2 ^ 64 - 1)
  let value = bytes_of count
  set (codes "count") value
  done (bytes_of count)
