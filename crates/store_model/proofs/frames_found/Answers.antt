-- The law is proved in `Framing`.
use Rattle.store_model.proofs.Framing.{frames_found}
use Rattle.store_model.proofs.frames_found.Goals as goal

pub returns : goal.returns
returns c = frames_found
