-- The law is proved in `Ordinals`.
use Rattle.store_model.proofs.Ordinals.{arrivals_found}
use Rattle.store_model.proofs.arrivals_found.Goals as goal

pub returns : goal.returns
returns c = arrivals_found
