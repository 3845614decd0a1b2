-- Written by tools/steps of src/trip.rt.
use Rattle.std.specs.Prelude.{[], codes, ◌∷◌}
use Rattle.durable_schedule.specs.Handlers.{Bytes}
use Rattle.durable_schedule.specs.Straight.{Steps, ◌>>=◌, ◌>>◌, begin_run, all, run_effect, set}

abbrev pub trip : Steps Bytes
trip = do
  flight ← begin_run (codes "flight")
  room ← begin_run (codes "room")
  let both = flight ∷ room ∷ []
  booked ← all both
  set (codes "booked") (codes "1")
  run_effect (codes "mail")
