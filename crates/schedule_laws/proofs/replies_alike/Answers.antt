-- The law is proved in `Isolation`.
use Rattle.schedule_laws.proofs.Isolation.{reply_alike}
use Rattle.schedule_laws.proofs.replies_alike.Goals as goal

pub returns : goal.returns
returns c = reply_alike
