-- The law is proved in `Reopening`.
use Rattle.durable_schedule.proofs.Reopening.{reopened_hold}
use Rattle.durable_schedule.proofs.laws.reopened_stores_hold.Goals as goal

pub returns : goal.returns
returns c = reopened_hold c.records_hold.ensures.on
