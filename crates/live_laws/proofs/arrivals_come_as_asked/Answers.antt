-- It is proved in `Asking`.
use Rattle.live_laws.proofs.AskedArrivals.{come_as_asked}
use Rattle.live_laws.proofs.arrivals_come_as_asked.Goals as goal

pub returns : goal.returns
returns c = come_as_asked
