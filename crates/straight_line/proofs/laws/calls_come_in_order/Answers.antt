use Rattle.std.proofs.Common.{refl}
use Rattle.straight_line.proofs.laws.calls_come_in_order.Goals as goal

pub returns : goal.returns
returns c = record { first = λ call rest. refl; later = λ call rest answer answers. refl }
