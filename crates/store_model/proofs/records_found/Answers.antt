-- The law is proved in `Finding`.
use Rattle.store_model.proofs.Finding.{all_found}
use Rattle.store_model.proofs.records_found.Goals as goal

pub returns : goal.returns
returns c = all_found
