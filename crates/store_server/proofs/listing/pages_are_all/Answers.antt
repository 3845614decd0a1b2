use Rattle.store_server.proofs.AllPages as all
use Rattle.store_server.proofs.listing.pages_are_all.Goals as goal

pub returns : goal.returns
returns c = all.pages_are_all
