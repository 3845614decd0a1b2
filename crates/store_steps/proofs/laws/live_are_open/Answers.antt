-- The law is proved in `Live`.
use Rattle.store_steps.proofs.Live.{live_open}
use Rattle.store_steps.proofs.laws.live_are_open.Goals as goal

pub returns : goal.returns
returns c = live_open
