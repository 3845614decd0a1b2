-- Written by tools/steps of src/rounds.rt.
use Rattle.std.specs.Prelude.{ℕ, codes, ◌*◌, ◌+◌}
use Rattle.durable_schedule.specs.Handlers.{Bytes, Input}
use Rattle.durable_schedule.specs.Straight.{Steps, ◌>>◌, done, set, sleep_until, for_rounds, later, text_of}

abbrev pub rounds-round : Input → ℕ → (Unit {0}) → Steps (Unit {0})
rounds-round input round state = do
  sleep_until (later input.input (100 * (round + 1)))
  let value = text_of (round + 1)
  set (codes "rounds") value
  done tt

abbrev pub rounds : Input → Steps Bytes
rounds input = do
  for_rounds 0 5 tt (rounds-round input)
  done (codes "5 rounds")
