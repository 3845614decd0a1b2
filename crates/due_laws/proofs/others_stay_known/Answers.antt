use Rattle.due_laws.proofs.Forgetting.{others_stay_known}
use Rattle.due_laws.proofs.others_stay_known.Goals as goal

pub returns : goal.returns
returns c = others_stay_known
