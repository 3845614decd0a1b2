-- The laws are proved in `LettingGo` and `Forgetting`.
use Rattle.schedule_laws.proofs.Forgetting.{forgetting_keeps}
use Rattle.schedule_laws.proofs.LettingGo.{letting_go_keeps}
use Rattle.schedule_laws.proofs.forgetting_keeps.Goals as goal

pub returns-clause-let_go : goal.returns-clause-let_go
returns-clause-let_go g c = letting_go_keeps g.H.Handler.next_call

pub returns-clause-forgotten : goal.returns-clause-forgotten
returns-clause-forgotten g c = forgetting_keeps g.H.Handler.next_call
