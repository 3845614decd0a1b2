-- The law is proved in `Holding`.
use Rattle.run_laws.proofs.Holding.{holds_wakes}
use Rattle.run_laws.proofs.suspensions_wake.Goals as goal

pub returns : goal.returns
returns c = λ next given events id h. holds_wakes next given id events h
