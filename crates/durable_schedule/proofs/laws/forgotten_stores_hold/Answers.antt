-- The law is proved in `Forgetting`.
use Rattle.durable_schedule.proofs.Forgetting.{forgotten_hold}
use Rattle.durable_schedule.proofs.laws.forgotten_stores_hold.Goals as goal

pub returns : goal.returns
returns c = forgotten_hold
