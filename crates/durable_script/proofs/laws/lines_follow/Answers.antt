-- The law is proved in `Following`.
use Rattle.durable_script.proofs.Following.{follow_lines}
use Rattle.durable_script.proofs.laws.lines_follow.Goals as goal

pub returns : goal.returns
returns c = follow_lines c.schedules_leave.ensures
