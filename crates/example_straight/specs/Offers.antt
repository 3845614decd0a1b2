-- Written by tools/steps of src/offers.rt.
use Rattle.std.specs.Prelude.{ℕ, [], codes, min, ◌+◌, ◌-◌, ◌^◌, ◌∷◌}
use Rattle.journal_model.specs.Notification.{Bytes}
use Rattle.journal_model.specs.declared.handler.Input.{Input}
use Rattle.straight_line.specs.Steps.{Steps, ◌>>=◌, ◌>>◌, done}
use Rattle.straight_line.specs.Calls.{begin_run}
use Rattle.straight_line.specs.Combinators.{first_succeeded}
use Rattle.straight_line.specs.Everyday.{set}
use Rattle.straight_line.specs.Rounds.{for_rounds}
use Rattle.straight_values.specs.Values.{bytes_of, number_in}

abbrev pub first_offer : Steps Bytes
first_offer = do
  near ← begin_run (codes "near")
  far ← begin_run (codes "far")
  let both = near ∷ far ∷ []
  first_succeeded both

abbrev pub offers-part : ℕ → ℕ → Steps ℕ
offers-part part total = do
  offer ← first_offer
  let total = min (total + (number_in offer)) (2 ^ 64 - 1)
  let value = bytes_of total
  set (codes "total") value
  done total

abbrev pub offers : Input → Steps Bytes
offers input = do
  let total : ℕ = 0
  total ← for_rounds 0 3 total offers-part
  done (bytes_of total)
