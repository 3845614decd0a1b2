use Rattle.straight_line.proofs.TakeKinds.{outcome, peeked, state, keys, id}
use Rattle.straight_line.proofs.laws.takes_stay_on.Goals as goal

pub returns : goal.returns
returns c = record { outcomes = outcome; peeked = peeked; states = state; keys = keys; ids = id }
