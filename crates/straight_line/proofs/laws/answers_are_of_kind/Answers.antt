use Rattle.straight_line.proofs.AnswerKinds.{of_kind}
use Rattle.straight_line.proofs.laws.answers_are_of_kind.Goals as goal

pub returns : goal.returns
returns c = of_kind
