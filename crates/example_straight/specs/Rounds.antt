-- Written by tools/steps of src/rounds.rt.
use Rattle.std.specs.Prelude.{ℕ, codes, ◌*◌, ◌+◌}
use Rattle.journal_model.specs.Notification.{Bytes}
use Rattle.journal_model.specs.declared.handler.Input.{Input}
use Rattle.straight_line.specs.Steps.{Steps, ◌>>◌, done}
use Rattle.straight_line.specs.Everyday.{set, sleep_until}
use Rattle.straight_line.specs.Rounds.{for_rounds}
use Rattle.straight_values.specs.Values.{later, text_of}

abbrev pub rounds-round : Input → ℕ → (Unit {0}) → Steps (Unit {0})
rounds-round input round state = do
  sleep_until (later input.input (100 * (round + 1)))
  let value = text_of (round + 1)
  set (codes "rounds") value
  done tt

abbrev pub rounds : Input → Steps Bytes
rounds input = do
  for_rounds 0 5 tt (rounds-round input)
  done (codes "5 rounds")
