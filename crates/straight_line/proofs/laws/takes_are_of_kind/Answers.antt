use Rattle.straight_line.proofs.TakenValues.{takes_of_kind}
use Rattle.straight_line.proofs.laws.takes_are_of_kind.Goals as goal

pub returns : goal.returns
returns c = takes_of_kind
