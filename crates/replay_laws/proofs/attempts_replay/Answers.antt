-- The laws are proved in `Standing`, `Reading` and `Turning`.
use Rattle.replay_laws.proofs.Standing.{replay_stands}
use Rattle.replay_laws.proofs.Reading.{replay_begins, replay_stays}
use Rattle.replay_laws.proofs.Turning.{replay_turns}
use Rattle.replay_laws.proofs.attempts_replay.Goals as goal

pub returns-clause-begins : goal.returns-clause-begins
returns-clause-begins c = replay_begins

pub returns-clause-stays : goal.returns-clause-stays
returns-clause-stays c = replay_stays

pub returns-clause-stands : goal.returns-clause-stands
returns-clause-stands c = replay_stands

pub returns-clause-turns : goal.returns-clause-turns
returns-clause-turns c = replay_turns
