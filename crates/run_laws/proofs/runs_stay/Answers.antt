-- The law is proved in `Extension` of `journal_model`.
use Rattle.journal_model.proofs.Extension.{run-same}
use Rattle.run_laws.proofs.runs_stay.Goals as goal

pub returns : goal.returns
returns c = run-same
