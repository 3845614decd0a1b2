-- Proved in `Places`.
use Rattle.store_live_laws.proofs.Places.{handed_is_read}
use Rattle.store_live_laws.proofs.handed_is_read.Goals as goal

pub returns : goal.returns
returns c = handed_is_read
