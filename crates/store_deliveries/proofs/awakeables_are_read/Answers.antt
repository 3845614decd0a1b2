-- The law is proved in `Awakeables`.
use Rattle.store_deliveries.proofs.Awakeables.{each_read}
use Rattle.store_deliveries.proofs.awakeables_are_read.Goals as goal

pub returns : goal.returns
returns c = each_read
