-- The law is proved in `Leaving`.
use Rattle.schedule_laws.proofs.Leaving.{take_frames}
use Rattle.schedule_laws.proofs.frames_are_taken.Goals as goal

pub returns : goal.returns
returns g c = λ options events replies old new none applies fit next id covered brings holds.
    take_frames g.H.Handler.next_call next options id c.schedules_keep.ensures.each covered c.schedules_keep.ensures.frames events replies old new none applies fit brings holds
