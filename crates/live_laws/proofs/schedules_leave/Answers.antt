-- The law is proved in `Schedules`.
use Rattle.live_laws.proofs.Schedules.{schedule_leaves}
use Rattle.live_laws.proofs.schedules_leave.Goals as goal

pub returns : goal.returns
returns c = schedule_leaves
