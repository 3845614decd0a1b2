-- The law is proved in `Asking`.
use Rattle.store_model.proofs.Asking.{asked_found}
use Rattle.store_model.proofs.requests_found.Goals as goal

pub returns : goal.returns
returns c = asked_found
