-- The law is proved in `EntryPlaces`.
use Rattle.schedule_laws.proofs.EntryPlaces.{entries_keep}
use Rattle.schedule_laws.proofs.entries_keep_places.Goals as goal

pub returns : goal.returns
returns c = entries_keep
