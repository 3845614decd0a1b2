-- The law is proved in `Leaving`.
use Rattle.schedule_laws.proofs.Leaving.{leaves}
use Rattle.schedule_laws.proofs.schedules_leave.Goals as goal

pub returns : goal.returns
returns g c = λ options events replies old new none applies fit next id covered brings holds.
    leaves g.H.Handler.next_call next options id c.schedules_keep.ensures.each covered events replies old new none applies fit brings holds
