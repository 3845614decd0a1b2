-- The law is proved in `Fits`.
use Rattle.schedule_laws.proofs.Fits.{may_come}
use Rattle.schedule_laws.proofs.messages_come_well.Goals as goal

pub returns : goal.returns
returns c = may_come
