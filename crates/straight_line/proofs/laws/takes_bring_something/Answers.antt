use Rattle.straight_line.proofs.AwaitedHandles.{takes_bring}
use Rattle.straight_line.proofs.laws.takes_bring_something.Goals as goal

pub returns : goal.returns
returns c = takes_bring
