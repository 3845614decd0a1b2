-- The law is proved in `Answering`.
use Rattle.store_model.proofs.Answering.{answer_found}
use Rattle.store_model.proofs.answers_found.Goals as goal

pub returns : goal.returns
returns c = answer_found
