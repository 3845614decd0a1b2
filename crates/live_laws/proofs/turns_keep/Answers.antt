-- Both are proved in `Living`.
use Rattle.live_laws.proofs.LiveTurns.{turn_keeps, position_at_call}
use Rattle.live_laws.proofs.turns_keep.Goals as goal

pub returns-clause-turns : goal.returns-clause-turns
returns-clause-turns c = turn_keeps

pub returns-clause-positions : goal.returns-clause-positions
returns-clause-positions c = position_at_call
