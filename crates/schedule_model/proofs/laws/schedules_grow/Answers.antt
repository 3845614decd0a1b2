-- The law is proved in `Applying`.
use Rattle.schedule_model.proofs.Applying.{schedules_grow}
use Rattle.schedule_model.proofs.laws.schedules_grow.Goals as goal

pub returns : goal.returns
returns g c = schedules_grow g.H.Handler.next_call
