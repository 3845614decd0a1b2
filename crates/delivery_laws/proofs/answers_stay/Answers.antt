-- The law is proved in `Answers`.
use Rattle.delivery_laws.proofs.Answers.{answers_stay}
use Rattle.delivery_laws.proofs.answers_stay.Goals as goal

pub returns : goal.returns
returns c = λ rules later log id. answers_stay id rules later log
