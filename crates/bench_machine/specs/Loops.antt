-- Written by tools/steps of src/loops.rt.
use Rattle.std.specs.Prelude.{ℕ, [], codes, ◌*◌}
use Rattle.journal_model.specs.Notification.{Bytes}
use Rattle.journal_model.specs.declared.handler.Input.{Input}
use Rattle.straight_line.specs.Steps.{Steps, ◌>>◌, done}
use Rattle.straight_line.specs.Everyday.{run_effect, sleep_until}
use Rattle.straight_line.specs.Rounds.{for_rounds}

abbrev pub sleeps-sleep : ℕ → (Unit {0}) → Steps (Unit {0})
sleeps-sleep sleep state = do
  sleep_until (sleep * 1_000_000)
  done tt

abbrev pub sleeps : Input → Steps Bytes
sleeps input = do
  for_rounds 0 1_000_000 tt sleeps-sleep
  done []

abbrev pub effects-effect : ℕ → (Unit {0}) → Steps (Unit {0})
effects-effect effect state = do
  run_effect (codes "pay")
  done tt

abbrev pub effects : Input → Steps Bytes
effects input = do
  for_rounds 0 1_000_000 tt effects-effect
  done []
