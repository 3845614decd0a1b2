-- The law is proved in `Opening`.
use Rattle.store_model.proofs.Opening.{open_found}
use Rattle.store_model.proofs.open_invocations_found.Goals as goal

pub returns : goal.returns
returns c = open_found
