-- The law is proved in `Ascending`.
use Rattle.run_laws.proofs.Ascending.{next_ascends}
use Rattle.run_laws.proofs.completions_ascend.Goals as goal

pub returns : goal.returns
returns c = next_ascends
