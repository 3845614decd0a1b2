-- The law is proved in `Asking`.
use Rattle.store_deliveries.proofs.Asking.{places_asked}
use Rattle.store_deliveries.proofs.places_are_asked.Goals as goal

pub returns : goal.returns
returns c = places_asked
