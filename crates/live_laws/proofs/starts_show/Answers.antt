-- It is proved in `Beginning`.
use Rattle.live_laws.proofs.StartFrame.{start_shows}
use Rattle.live_laws.proofs.starts_show.Goals as goal

pub returns : goal.returns
returns c = start_shows
