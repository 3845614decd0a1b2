-- It is proved in `Recording`.
use Rattle.live_laws.proofs.Recording.{ids_recorded}
use Rattle.live_laws.proofs.records_give_ids.Goals as goal

pub returns : goal.returns
returns c = ids_recorded
