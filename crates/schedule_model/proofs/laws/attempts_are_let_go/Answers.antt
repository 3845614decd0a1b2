-- The law is proved in `LettingGo`.
use Rattle.schedule_model.proofs.LettingGo.{are_let_go}
use Rattle.schedule_model.proofs.laws.attempts_are_let_go.Goals as goal

pub returns : goal.returns
returns g c = are_let_go
