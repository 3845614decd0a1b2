-- The law is proved in `Keeping`.
use Rattle.store_arrivals.proofs.Keeping.{ready_keeps}
use Rattle.store_arrivals.proofs.laws.ready_kept.Goals as goal

pub returns : goal.returns
returns c = ready_keeps
